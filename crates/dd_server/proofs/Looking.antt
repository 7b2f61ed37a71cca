-- What a look-up says, by what it finds.
use Rattle.std.proofs.Common.{◌≡◌, ◌∙◌, ◌⊎◌, ℕ, suc, ◌+◌, ◌<◌, true, false, List, [], ◌∷◌, ◌++◌, length, length-append, map, Option, None, Some, ap, refl, subst, sym, inl, inr, arith, All}
use Rattle.std.specs.Prelude.{◌==◌, slice_get}
use Rattle.std.specs.Map.{lookup, remove_entry}
use Rattle.std.specs.Option.{option_map_or}
use Rattle.std.specs.declared.vec.Vec.{Vec}
use Rattle.std.proofs.Math.Logic.{∥∥₁_elim}
use Rattle.std.proofs.Props.{props}
use Rattle.std.proofs.lemmas.Bool.{eq-eqb, eqb-true, false≢true}
use Rattle.std.proofs.lemmas.List.{append-nil, map-append}
use Rattle.std.proofs.lemmas.List.Elements.{All-push}
use Rattle.dd_peer.specs.Relevant.{AreDeclared, AreRelevant, ComeFromBelow, Relevant, by_rule, has_from, itself}
use Rattle.dd_peer.specs.Rules.{rules_of}
use Rattle.dd_peer.specs.declared.version.PeerVersion.{PeerVersion}
use Rattle.dd_peer.specs.declared.version.Pinned.{Pinned}
use Rattle.dd_peer.specs.declared.version.Rule.{Rule}
use Rattle.dd_pin.proofs.Pins.{accepted-declared, pin_parts, pinned-size}
use Rattle.dd_task.specs.declared.job.Job.{Job}
use Rattle.dd_task.proofs.Places.{All-at, All-from, at-behind}
use Rattle.dd_text.specs.Symbols.{IsNumbering, SymbolLists, texts_of}
use Rattle.dd_answer.specs.declared.answer.Answer.{Answer}
use Rattle.dd_answer.specs.declared.answer.Answer.TheVariants as answer
use Rattle.dd_board.specs.Legal.{begun, empty_start}
use Rattle.dd_board.specs.View.{SessionView}
use Rattle.dd_cache.specs.Entries.{to_front}
use Rattle.dd_cache.specs.Keys.{Key, same_key, seen_key}
use Rattle.dd_cache.specs.declared.cache.Kept.{Kept as Entry}
use Rattle.dd_cache.specs.declared.key.CacheKey.{CacheKey}
use Rattle.dd_outcome.specs.Answers.{Answers}
use Rattle.dd_wire.specs.declared.reply.Origin.TheVariants.{Search, Cache}
use Rattle.dd_wire.specs.declared.reply.Reply.{Reply}
use Rattle.dd_wire.specs.declared.reply.Reply.TheVariants as reply
use Rattle.dd_read.specs.Fit.{IsFitAsk, IsFitJob}
use Rattle.dd_read.specs.State.{State, peer_count}
use Rattle.dd_read.specs.declared.kept.Ask.{Ask}
use Rattle.dd_read.specs.declared.kept.Kept.{Kept}
use Rattle.dd_read.specs.declared.kept.Kept.TheVariants.{Asked}
use Rattle.dd_server.specs.Finish.{Answered, Entries, LooksBy, key_of_ask}
use Rattle.dd_server.specs.Held.{AreEntries}
use Rattle.dd_server.specs.Windows.{AreNew, IsNew, IsOpen, IsWritable, LookToAll, LooksTo, Opens, RepliesOr, SearchesFor, line_text}
use Rattle.dd_server.specs.declared.look.Looked.{Looked}
use Rattle.dd_server.specs.declared.look.Looked.TheVariants as looked
use Rattle.dd_server.proofs.Anys.{any-at, any-found}
use Rattle.dd_server.proofs.Holding.{found-answers}
use Rattle.dd_server.proofs.Windowed.{look-later, look-more, open-later}
use Rattle.dd_server.proofs.Writable.{answer-writable}

-- ---- the peers of a key

-- peers that are relevant to a declared peer are declared
module _ (p : Pinned) (j : ℕ) (declared : AreDeclared p) (asked : j < length p.peers) where
  leads-low : (i h : ℕ) (o : Option PeerVersion) → slice_get p.peers i ≡ o → option_map_or (has_from h) o false ≡ true → h < length p.peers
  leads-low i h None at keeps = absurd (false≢true keeps)
  leads-low i h (Some v) at keeps =
      let found = any-found Rule (λ (r : Rule). r.from == h) (rules_of v) keeps in
      subst (λ n. n < length p.peers) (eqb-true found.1.from h found.3)
      (All-at Rule (λ (r : Rule). r.from < length p.peers) (rules_of v) found.0 found.1
      (All-at PeerVersion (ComeFromBelow (length p.peers)) p.peers i v declared at) found.2)

  relevant-low : (i : ℕ) → Relevant p j i → i < length p.peers
  relevant-low _ itself = asked
  relevant-low _ (by_rule i h r keeps) = leads-low i h (slice_get p.peers i) refl keeps

  listed-low : (list : List ℕ) → AreRelevant p j list → All (λ (peer : ℕ). peer < length p.peers) list
  listed-low list rel = All-from ℕ (λ (peer : ℕ). peer < length p.peers) list (λ k i at.
      ∥∥₁_elim ((rel.exactly i).0 (any-at ℕ (λ n. n == i) list k i at (eq-eqb i i refl))) (hlevel props) (relevant-low i))

-- the pin of a fit ask has a number for each peer that is relevant to it
pub relevant-pinned : (state : State) (ask : Ask) → IsFitAsk state ask → All (λ (peer : ℕ). peer < length ask.pin.versions) ask.job.relevant
relevant-pinned state ask f =
    let count : length ask.job.pinned.peers ≡ peer_count state = ap (λ (p : Pinned). length p.peers) f.pinned ∙ pinned-size (peer_count state) ask.pin.versions state.history f.pin in
    subst (λ n. All (λ (peer : ℕ). peer < n) ask.job.relevant) (count ∙ sym (pin_parts (peer_count state) ask.pin.versions state.history f.pin).0)
    (listed-low ask.job.pinned ask.job.query.peer (accepted-declared ask.job.pinned f.job.accepted) f.job.asked ask.job.relevant f.job.relevant)

-- ---- an answer that is kept

answered-writable : (s : SymbolLists) (job : Job) (a : Answer) → IsFitJob s job → ∥ Answers job a ∥₁ → IsWritable s a
answered-writable s job (answer.Yes lines) fit h = ∥∥₁_elim h (hlevel props) (answer-writable s job (answer.Yes lines) fit)
answered-writable s job (answer.No w) fit h = ∥∥₁_elim h (hlevel props) (answer-writable s job (answer.No w) fit)
answered-writable s job (answer.RunSpent run) fit h = tt
answered-writable s job (answer.VerdictsSpent n) fit h = tt
answered-writable s job answer.Memory fit h = tt

module _ (state : State) (numbering : IsNumbering state.symbols) (ask : Ask) (fit : IsFitAsk state ask) (key : Key) (is : key ≡ key_of_ask state.symbols ask)
    (old : Entries) (entries : AreEntries state old) (a : Entry) (found : lookup (same_key key) old ≡ Some a) where
  found-there : lookup (same_key (key_of_ask state.symbols ask)) old ≡ Some a
  found-there = subst (λ (k : Key). lookup (same_key k) old ≡ Some a) is found

  found-answer : ∥ Answers ask.job a.answer ∥₁
  found-answer = found-answers state numbering ask old a fit entries found-there

  pub found-writable : IsWritable state.symbols a.answer
  found-writable = answered-writable state.symbols ask.job a.answer fit.job found-answer

  found-looks : (new : Entries) (given : Answered) → new ≡ to_front key old → given.from ≡ Cache → (given.answer ≡ a.answer) ⊎ (given.answer ≡ answer.Memory)
      → LooksBy (key_of_ask state.symbols ask) (lookup (same_key (key_of_ask state.symbols ask)) old) old new given
  found-looks new given front from is_given =
      subst (λ o. LooksBy (key_of_ask state.symbols ask) o old new given) (sym found-there) (from, is_given, front ∙ ap (λ (k : Key). to_front k old) is)

  pub found-told : (board : List SessionView) (new : Entries) (r : Reply) → new ≡ to_front key old → RepliesOr state.symbols ask.id ask.pin Cache a.answer r
      → LooksTo state.symbols board (Asked ask) old new (looked.Told r)
  found-told board new r front (inl replies) = inl (record {
    given = record { from = Cache; answer = a.answer };
    reply = r;
    looked_is = refl;
    looks = (found-answer, inr (found-looks new (record { from = Cache; answer = a.answer }) front refl (inl refl)));
    replies = replies;
  })
  found-told board new r front (inr lacks) = inl (record {
    given = record { from = Cache; answer = answer.Memory };
    reply = r;
    looked_is = refl;
    looks = (∣ tt ∣₁, inr (found-looks new (record { from = Cache; answer = answer.Memory }) front refl (inr refl)));
    replies = lacks;
  })

-- ---- an ask that is searched for

pub missing-same : (key : Key) (old new : Entries) → lookup (same_key key) old ≡ None → new ≡ to_front key old → new ≡ old
missing-same key old new missing front = front ∙ ap (λ (o : Option Entry). option_map_or (λ a. (key, a) ∷ remove_entry (same_key key) old) o old) missing

module _ (s : SymbolLists) (ask : Ask) (key : CacheKey) (before after : List SessionView) (l : Looked) where
  pub searched-looks : (old new : Entries) → seen_key key ≡ key_of_ask s ask → lookup (same_key (seen_key key)) old ≡ None → new ≡ old
      → SearchesFor ask key before after l → LooksTo s after (Asked ask) old new l
  searched-looks old new is missing same (inl opened) = inr (record {
    key = key;
    session = length before;
    looked_is = opened.0;
    key_is = is;
    missing = subst (λ (k : Key). lookup (same_key k) old ≡ None) is missing;
    same = same;
    view = begun ask.job (empty_start ask.job.pinned);
    at = ap (λ (b : List SessionView). slice_get b (length before)) opened.1 ∙ last;
    job = refl;
  })
    where
      last : slice_get (before ++ begun ask.job (empty_start ask.job.pinned) ∷ []) (length before) ≡ Some (begun ask.job (empty_start ask.job.pinned))
      last = ap (slice_get (before ++ begun ask.job (empty_start ask.job.pinned) ∷ [])) (let e : length before ≡ length before + 0 = omega arith in e)
          ∙ at-behind SessionView before (begun ask.job (empty_start ask.job.pinned) ∷ []) 0
  searched-looks old new is missing same (inr lacks) = inl (record {
    given = record { from = Search; answer = answer.Memory };
    reply = reply.Memory ask.id Search ask.pin;
    looked_is = lacks.0;
    looks = (∣ tt ∣₁, inl (same, refl));
    replies = refl;
  })

  pub searched-open : SearchesFor ask key before after l → IsOpen after l
  searched-open (inl opened) =
      let longer = ap length opened.1 ∙ length-append before (begun ask.job (empty_start ask.job.pinned) ∷ []) in
      let low : length before < length after = omega (arith, longer) in
      subst (λ (x : Looked). IsOpen after x) (sym opened.0) low
  searched-open (inr lacks) = subst (λ (x : Looked). IsOpen after x) (sym lacks.0) tt

  pub searched-opens : SearchesFor ask key before after l → Opens before after
  searched-opens (inl opened) = (begun ask.job (empty_start ask.job.pinned) ∷ [], opened.1)
  searched-opens (inr lacks) = ([], lacks.1 ∙ sym (append-nil before))

  pub searched-new : IsFitJob s ask.job → AreNew s before → SearchesFor ask key before after l → AreNew s after
  searched-new fit new (inl opened) = subst (AreNew s) (sym opened.1)
      (All-push (IsNew s) before (begun ask.job (empty_start ask.job.pinned)) new (fit, refl))
  searched-new fit new (inr lacks) = subst (AreNew s) (sym lacks.1) new

-- ---- one more item of a window

module _ (s : SymbolLists) (before after : List SessionView) (opens : Opens before after) (ls out : List Looked) (l : Looked) (is : out ≡ ls ++ l ∷ []) where
  pub look-next : (ks : List Kept) (k : Kept) (old mid new : Entries) → LookToAll s before ks old mid ls → LooksTo s after k mid new l
      → LookToAll s after (ks ++ k ∷ []) old new out
  look-next ks k old mid new h t = subst (LookToAll s after (ks ++ k ∷ []) old new) (sym is)
      (look-more s after ks k old mid new ls l (look-later s before after opens ks old mid ls h) t)

  pub open-next : All (IsOpen before) ls → IsOpen after l → All (IsOpen after) out
  open-next h t = subst (All (IsOpen after)) (sym is) (All-push (IsOpen after) ls l (open-later s before after opens ls h) t)

-- one more reply as it is written
pub texts-next : {A : Type 0} (lines out : List (Vec ℕ A)) (line : Vec ℕ A) (rs : List Reply) (r : Reply) → out ≡ lines ++ line ∷ [] → texts_of lines ≡ map line_text rs
    → line.items ≡ line_text r → texts_of out ≡ map line_text (rs ++ r ∷ [])
texts-next lines out line rs r is so_far next =
    ap texts_of is ∙ map-append (λ v. v.items) lines (line ∷ []) ∙ ap (λ ts. ts ++ line.items ∷ []) so_far ∙ ap (λ t. map line_text rs ++ t ∷ []) next
    ∙ sym (map-append line_text rs (r ∷ []))
