-- For private clauses: the two halves of a window's end, with the board of the asks that are searched for between them.
use Rattle.std.specs.Prelude.{◌≡◌, ℕ, ◌⊎◌, ◌<◌, List, [], ◌∷◌, ◌++◌, None, Some, All, length, slice_get, ⊤}
use Rattle.std.specs.Map.{lookup}
use Rattle.dd_text.specs.Symbols.{SymbolLists}
use Rattle.dd_peer.specs.declared.version.Pin.{Pin}
use Rattle.dd_answer.specs.declared.answer.Answer.{Answer}
use Rattle.dd_answer.specs.declared.answer.Answer.TheVariants as answer
use Rattle.dd_board.specs.Boards.{OfSession}
use Rattle.dd_board.specs.Legal.{begun, empty_start}
use Rattle.dd_board.specs.View.{SessionView}
use Rattle.dd_cache.specs.Keys.{same_key, seen_key}
use Rattle.dd_cache.specs.declared.key.CacheKey.{CacheKey}
use Rattle.dd_cert.specs.Printed.{IsPrintable as IsCertPrintable}
use Rattle.dd_outcome.specs.Answers.{Answers}
use Rattle.dd_wire.specs.Replies.{IsPrintable, reply_text}
use Rattle.dd_wire.specs.declared.reply.Origin.{Origin}
use Rattle.dd_wire.specs.declared.reply.Origin.TheVariants.{Search}
use Rattle.dd_wire.specs.declared.reply.Reply.{Reply}
use Rattle.dd_wire.specs.declared.reply.Reply.TheVariants as reply
use Rattle.dd_read.specs.Fit.{IsFitJob}
use Rattle.dd_read.specs.declared.kept.Ask.{Ask}
use Rattle.dd_read.specs.declared.kept.Kept.{Kept}
use Rattle.dd_read.specs.declared.kept.Kept.TheVariants.{Finished, Asked}
use Rattle.dd_server.specs.Finish.{Entries, Answered, key_of_ask, LooksUp, Keeps, Replies}
use Rattle.dd_server.specs.declared.look.Looked.{Looked}
use Rattle.dd_server.specs.declared.look.Looked.TheVariants.{Told, Searched}

-- ---- the board

-- the session is at its beginning, with a job that is fit
abbrev pub IsNew : SymbolLists → SessionView → Type 0
IsNew s v = IsFitJob s v.job × (v ≡ begun v.job (empty_start v.job.pinned))

-- all sessions are
abbrev pub AreNew : SymbolLists → List SessionView → Type 0
AreNew s board = All (IsNew s) board

-- the session began with nothing, and its job is fit
abbrev pub IsFitSession : SymbolLists → SessionView → Type 0
IsFitSession s v = IsFitJob s v.job × (v.start ≡ empty_start v.job.pinned)

abbrev pub AreFitSessions : SymbolLists → List SessionView → Type 0
AreFitSessions s board = All (IsFitSession s) board

-- more sessions were opened
abbrev pub Opens : List SessionView → List SessionView → Type 0
Opens old new = (more : List SessionView) × (new ≡ old ++ more)

-- ---- replies

-- what a yes or a no brings can be written down as its certificate
abbrev pub IsWritable : SymbolLists → Answer → Type 0
IsWritable s (answer.Yes lines) = IsCertPrintable s (answer.Yes lines)
IsWritable s (answer.No w) = IsCertPrintable s (answer.No w)
IsWritable s (answer.RunSpent run) = ⊤
IsWritable s (answer.VerdictsSpent n) = ⊤
IsWritable s answer.Memory = ⊤

-- the reply with this answer, or that there was no memory for it
abbrev pub RepliesOr : SymbolLists → ℕ → Pin → Origin → Answer → Reply → Type 0
RepliesOr s id pin from a given = Replies s id pin from a given ⊎ (given ≡ reply.Memory id from pin)

-- a session was opened for the ask, or there was no memory for it
abbrev pub SearchesFor : Ask → CacheKey → List SessionView → List SessionView → Looked → Type 0
SearchesFor ask key old new looked =
    ((looked ≡ Searched ask.id ask.pin key (length old)) × (new ≡ old ++ begun ask.job (empty_start ask.job.pinned) ∷ []))
    ⊎ ((looked ≡ Told (reply.Memory ask.id Search ask.pin)) × (new ≡ old))

-- ---- look-ups

-- the ask is answered at once, and this is its reply
pub record IsToldNow (s : SymbolLists) (ask : Ask) (old new : Entries) (looked : Looked) : Type 0 where
  pub given : Answered
  pub reply : Reply
  pub looked_is : looked ≡ Told reply
  pub looks : LooksUp s ask old new given
  pub replies : Replies s ask.id ask.pin given.from given.answer reply

-- no entry has its key, and it is searched for in a session of the board
pub record IsSearched (s : SymbolLists) (board : List SessionView) (ask : Ask) (old new : Entries) (looked : Looked) : Type 0 where
  pub key : CacheKey
  pub session : ℕ
  pub looked_is : looked ≡ Searched ask.id ask.pin key session
  pub key_is : seen_key key ≡ key_of_ask s ask
  pub missing : lookup (same_key (key_of_ask s ask)) old ≡ None
  pub same : new ≡ old
  pub view : SessionView
  pub at : slice_get board session ≡ Some view
  pub job : view.job ≡ ask.job

abbrev pub LooksTo : SymbolLists → List SessionView → Kept → Entries → Entries → Looked → Type 0
LooksTo s board (Finished given) old new looked = (looked ≡ Told given) × (new ≡ old)
LooksTo s board (Asked ask) old new looked = IsToldNow s ask old new looked ⊎ IsSearched s board ask old new looked

abbrev pub LookToAll : SymbolLists → List SessionView → List Kept → Entries → Entries → List Looked → Type 0
LookToAll s board [] old new looked = (looked ≡ []) × (new ≡ old)
LookToAll s board (k ∷ ks) old new looked = (first : Looked) × (more : List Looked) × (mid : Entries) × (looked ≡ first ∷ more)
    × LooksTo s board k old mid first × LookToAll s board ks mid new more

-- a reply that is told can be printed, and a session that is named is there
abbrev pub IsOpen : List SessionView → Looked → Type 0
IsOpen board (Told given) = IsPrintable given
IsOpen board (Searched id pin key session) = session < length board

-- ---- answers

-- what was told is replied; a session that was searched is answered, and the answer may be kept
abbrev pub Concludes : ℕ → SymbolLists → List SessionView → Looked → Entries → Entries → Reply → Type 0
Concludes capacity s board (Told given) old new reply = (reply ≡ given) × (new ≡ old)
Concludes capacity s board (Searched id pin key session) old new reply = (a : Answer) × OfSession (λ v. Answers v.job a) board session
    × Keeps capacity (seen_key key) (record { from = Search; answer = a }) old new × Replies s id pin Search a reply

abbrev pub ConcludeAll : ℕ → SymbolLists → List SessionView → List Looked → Entries → Entries → List Reply → Type 0
ConcludeAll capacity s board [] old new replies = (replies ≡ []) × (new ≡ old)
ConcludeAll capacity s board (l ∷ ls) old new replies = (first : Reply) × (more : List Reply) × (mid : Entries) × (replies ≡ first ∷ more)
    × Concludes capacity s board l old mid first × ConcludeAll capacity s board ls mid new more

-- the ask is replied with the answer, which may be kept, or, without memory for that, that there was none
abbrev pub KeepsOr : ℕ → SymbolLists → ℕ → Pin → CacheKey → Answer → Entries → Entries → Reply → Type 0
KeepsOr capacity s id pin key a old new given =
    (Keeps capacity (seen_key key) (record { from = Search; answer = a }) old new × Replies s id pin Search a given)
    ⊎ ((new ≡ old) × (given ≡ reply.Memory id Search pin))

-- a reply as it is written, with its line feed
abbrev pub line_text : Reply → List ℕ
line_text r = reply_text r ++ 10 ∷ []
