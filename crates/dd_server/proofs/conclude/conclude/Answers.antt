use Rattle.std.proofs.Common.{◌≡◌, ◌⊎◌, ◌<◌, ◌≤◌, ℕ, List, length, inl, inr, subst, sym, None, Some, arith}
use Rattle.std.specs.Prelude.{slice_get}
use Rattle.std.proofs.lemmas.Option.{slice_get_cases}
use Rattle.std.specs.List.{slice_index_or}
use Rattle.dd_answer.specs.declared.answer.Answer.{Answer}
use Rattle.dd_answer.specs.declared.answer.Answer.TheVariants as answer
use Rattle.dd_board.specs.Boards.{OfSession}
use Rattle.dd_board.specs.View.{SessionView}
use Rattle.dd_cache.specs.Keys.{seen_key}
use Rattle.dd_cache.specs.declared.key.CacheKey.{CacheKey}
use Rattle.dd_outcome.specs.Answers.{Answers}
use Rattle.dd_peer.specs.declared.version.Pin.{Pin}
use Rattle.dd_task.proofs.Places.{All-at}
use Rattle.dd_text.specs.Symbols.{SymbolLists}
use Rattle.dd_wire.specs.declared.reply.Origin.TheVariants.{Search}
use Rattle.dd_wire.specs.declared.reply.Reply.{Reply}
use Rattle.dd_server.specs.Finish.{Entries}
use Rattle.dd_server.specs.Windows.{AreFitSessions, Concludes, IsFitSession, IsOpen, IsWritable, KeepsOr}
use Rattle.dd_server.specs.declared.look.Looked.{Looked}
use Rattle.dd_server.specs.declared.look.Looked.TheVariants as looked
use Rattle.dd_server.proofs.Boarded.{fit-placed}
use Rattle.dd_server.proofs.Writable.{answer-writable}
use Rattle.dd_server.proofs.conclude.conclude.Goals as goal

session-writable : (s : SymbolLists) (board : List SessionView) (n : ℕ) (a : Answer) → AreFitSessions s board → n < length board → OfSession (λ v. Answers v.job a) board n → IsWritable s a
session-writable s board n a fit low answers = by_case (slice_get_cases board n).1
  where
    by_case : ((v : SessionView) × (n < length board) × (slice_get board n ≡ Some v) × (slice_index_or board n v ≡ v)) ⊎ ((length board ≤ n) × (slice_get board n ≡ None)) → IsWritable s a
    by_case (inl there) = answer-writable s there.0.job a (All-at SessionView (IsFitSession s) board n there.0 fit there.2).0 (answers there.0 there.2)
    by_case (inr past) = let far = past.0 in absurd (omega (arith, low, far))

concluded : (capacity : ℕ) (s : SymbolLists) (board : List SessionView) (l : Looked) (id : ℕ) (pin : Pin) (key : CacheKey) (n : ℕ) (a : Answer) (old new : Entries) (r : Reply)
    → l ≡ looked.Searched id pin key n → OfSession (λ v. Answers v.job a) board n → KeepsOr capacity s id pin key a old new r → Concludes capacity s board l old new r
concluded capacity s board l id pin key n a old new r is answers (inl kept) =
    subst (λ (x : Looked). Concludes capacity s board x old new r) (sym is) (a, answers, kept.0, kept.1)
concluded capacity s board l id pin key n a old new r is answers (inr lacks) =
    subst (λ (x : Looked). Concludes capacity s board x old new r) (sym is) (answer.Memory, (λ v at. tt), inl lacks.0, lacks.1)

pub answer_of-answer-requires-clause-placed : goal.answer_of-answer-requires-clause-placed
answer_of-answer-requires-clause-placed c = λ v at. fit-placed c.args.symbols.now v.job (All-at SessionView (IsFitSession c.args.symbols.now) c.args.board.now _ v c.requires.sessions at).0

pub answer_of-answer-requires-clause-from_nothing : goal.answer_of-answer-requires-clause-from_nothing
answer_of-answer-requires-clause-from_nothing c = λ v at. (All-at SessionView (IsFitSession c.args.symbols.now) c.args.board.now _ v c.requires.sessions at).1

pub reply_to-requires : goal.reply_to-requires
reply_to-requires c = session-writable c.args.symbols.now c.args.board.now c.in-Searched.session c.answer_of-answer.result c.requires.sessions
    (subst (λ (l : Looked). IsOpen c.args.board.now l) c.in-Searched.is c.requires.open) c.answer_of-answer.ensures

pub returns-in-Searched-clause-concludes : goal.returns-in-Searched-clause-concludes
returns-in-Searched-clause-concludes c = concluded c.args.cache.now.capacity c.args.symbols.now c.args.board.now c.args.looked c.in-Searched.id c.in-Searched.pin c.in-Searched.key c.in-Searched.session
    c.answer_of-answer.result c.args.cache.now.list c.reply_to.new.cache.list c.reply_to.result c.in-Searched.is c.answer_of-answer.ensures c.reply_to.ensures.keeps
