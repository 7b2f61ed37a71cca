-- How a window ends: its asks are looked up among the entries of the cache and answered, and what was searched for is kept.
use Rattle.std.specs.Prelude.{◌≡◌, ℕ, ◌⊎◌, ◌≤◌, true, false, List, [], ◌∷◌, length, Option, None, Some}
use Rattle.std.specs.Map.{lookup}
use Rattle.serde_json.specs.View.{view}
use Rattle.serde_json.specs.declared.value.Value.{Value}
use Rattle.dd_text.specs.Symbols.{SymbolLists}
use Rattle.dd_peer.specs.declared.version.Pin.{Pin}
use Rattle.dd_answer.specs.Weight.{weight_of}
use Rattle.dd_answer.specs.declared.answer.Answer.{Answer}
use Rattle.dd_answer.specs.declared.answer.Answer.TheVariants as answer
use Rattle.dd_cache.specs.Entries.{IsVerdict, to_front, with_first}
use Rattle.dd_cache.specs.Keys.{Key, key_of_query, same_key}
use Rattle.dd_cache.specs.declared.cache.Kept.{Kept as Entry}
use Rattle.dd_cert.specs.Printed.{cert_value}
use Rattle.dd_outcome.specs.Answers.{Answers}
use Rattle.dd_wire.specs.declared.reply.Origin.{Origin}
use Rattle.dd_wire.specs.declared.reply.Origin.TheVariants.{Search, Cache}
use Rattle.dd_wire.specs.declared.reply.Reply.{Reply}
use Rattle.dd_wire.specs.declared.reply.Reply.TheVariants as reply
use Rattle.dd_read.specs.declared.kept.Ask.{Ask}
use Rattle.dd_read.specs.declared.kept.Kept.{Kept}
use Rattle.dd_read.specs.declared.kept.Kept.TheVariants.{Finished, Asked}

-- the entries of the cache, the one that was used last first
abbrev pub Entries : Type 0
Entries = List (Key × Entry)

-- the key of an ask: its question, and the relevant peers with their versions
abbrev pub key_of_ask : SymbolLists → Ask → Key
key_of_ask s ask = key_of_query s ask.job.query ask.job.relevant ask.pin

-- ---- look-ups

-- what an ask is answered, and where the answer is from
pub record Answered : Type 0 where
  pub from : Origin
  pub answer : Answer

-- there was no memory for its key: it is answered so, and the entries stay
abbrev pub LacksKey : Entries → Entries → Answered → Type 0
LacksKey old new given = (new ≡ old) × (given ≡ record { from = Search; answer = answer.Memory })

-- An entry of its key is found, which comes first: the ask is answered what is kept there, or that memory was wanting. Where none is
-- found the entries stay.
abbrev pub LooksBy : Key → Option Entry → Entries → Entries → Answered → Type 0
LooksBy key (Some entry) old new given = (given.from ≡ Cache) × ((given.answer ≡ entry.answer) ⊎ (given.answer ≡ answer.Memory)) × (new ≡ to_front key old)
LooksBy key None old new given = (given.from ≡ Search) × (new ≡ old)

-- an ask is looked up, and is given one of its own answers, whether it is found or searched for
abbrev pub LooksUp : SymbolLists → Ask → Entries → Entries → Answered → Type 0
LooksUp s ask old new given = ∥ Answers ask.job given.answer ∥₁
    × (LacksKey old new given ⊎ LooksBy (key_of_ask s ask) (lookup (same_key (key_of_ask s ask)) old) old new given)

-- an item of a window once it was looked up: a reply that was finished while its line was read, or an ask with what it is answered
pub data Told : Type 0 where
  replied : Reply → Told
  answered : Ask → Answered → Told

abbrev pub LooksUpItem : SymbolLists → Kept → Entries → Entries → Told → Type 0
LooksUpItem s (Finished given) old new told = (told ≡ replied given) × (new ≡ old)
LooksUpItem s (Asked ask) old new told = (given : Answered) × (told ≡ answered ask given) × LooksUp s ask old new given

-- the asks are looked up in request order
abbrev pub LookUpAll : SymbolLists → List Kept → Entries → Entries → List Told → Type 0
LookUpAll s [] old new told = (told ≡ []) × (new ≡ old)
LookUpAll s (k ∷ ks) old new told = (first : Told) × (more : List Told) × (mid : Entries) × (told ≡ first ∷ more)
    × LooksUpItem s k old mid first × LookUpAll s ks mid new more

-- ---- keeps

-- a yes or a no from search that is not too heavy
pub record IsKept (given : Answered) : Type 0 where
  pub searched : given.from ≡ Search
  pub decided : IsVerdict given.answer
  pub light : weight_of given.answer ≤ 10000

-- such an answer is put first, in place of an entry with an equal key; or it is passed over, for want of memory. Any other is not kept.
abbrev pub Keeps : ℕ → Key → Answered → Entries → Entries → Type 0
Keeps capacity key given old new = (new ≡ old) ⊎ (IsKept given × (new ≡ with_first capacity key given.answer old))

abbrev pub KeepsItem : ℕ → SymbolLists → Told → Entries → Entries → Type 0
KeepsItem capacity s (replied given) old new = new ≡ old
KeepsItem capacity s (answered ask given) old new = Keeps capacity (key_of_ask s ask) given old new

-- what was searched for is kept in request order
abbrev pub KeepAll : ℕ → SymbolLists → List Told → Entries → Entries → Type 0
KeepAll capacity s [] old new = new ≡ old
KeepAll capacity s (t ∷ ts) old new = (mid : Entries) × KeepsItem capacity s t old mid × KeepAll capacity s ts mid new

-- ---- replies

-- the reply to the ask with this number and this pin, which is given this answer; a yes or a no brings its certificate
abbrev pub Replies : SymbolLists → ℕ → Pin → Origin → Answer → Reply → Type 0
Replies s id pin from (answer.Yes lines) given = (cert : Value) × (view cert ≡ cert_value s (answer.Yes lines)) × (given ≡ reply.Decided id true from pin cert)
Replies s id pin from (answer.No w) given = (cert : Value) × (view cert ≡ cert_value s (answer.No w)) × (given ≡ reply.Decided id false from pin cert)
Replies s id pin from (answer.RunSpent run) given = given ≡ reply.RunSpent id (length run.labels) run.peer from pin
Replies s id pin from (answer.VerdictsSpent n) given = given ≡ reply.VerdictsSpent id n from pin
Replies s id pin from answer.Memory given = given ≡ reply.Memory id from pin

abbrev pub RepliesItem : SymbolLists → Told → Reply → Type 0
RepliesItem s (replied done) given = given ≡ done
RepliesItem s (answered ask a) given = Replies s ask.id ask.pin a.from a.answer given

abbrev pub ReplyAll : SymbolLists → List Told → List Reply → Type 0
ReplyAll s [] replies = replies ≡ []
ReplyAll s (t ∷ ts) replies = (first : Reply) × (more : List Reply) × (replies ≡ first ∷ more) × RepliesItem s t first × ReplyAll s ts more

-- ---- a window

-- A window with these items ends: first all its asks are looked up, and then what was searched for is kept.
abbrev pub Finish : ℕ → SymbolLists → List Kept → Entries → Entries → List Reply → Type 0
Finish capacity s kept old new replies = (told : List Told) × (mid : Entries) × LookUpAll s kept old mid told × KeepAll capacity s told mid new
    × ReplyAll s told replies
