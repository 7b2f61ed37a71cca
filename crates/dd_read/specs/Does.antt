-- For private clauses: what a request did to a state that has its symbols already.
use Rattle.std.specs.Prelude.{◌≡◌, ℕ, ◌<◌, Bool, true, false, List, length, slice_get, Option, None, Some, Ok, Err, IsSome}
use Rattle.serde_json.specs.Data.{Data}
use Rattle.serde_json.specs.View.{view}
use Rattle.dd_text.specs.Symbols.{SymbolLists}
use Rattle.dd_peer.specs.Question.{Question}
use Rattle.dd_peer.specs.declared.version.PeerVersion.{PeerVersion}
use Rattle.dd_peer.specs.declared.version.Query.{Query}
use Rattle.dd_pin.specs.History.{Registered, is_pin, last_version}
use Rattle.dd_pin.specs.Puts.{refusal_at, with_put as with_one}
use Rattle.dd_pin.specs.declared.registry.PutErr.{PutErr}
use Rattle.dd_task.specs.declared.job.Budget.{Budget}
use Rattle.dd_task.specs.declared.job.Job.{Job}
use Rattle.dd_wire.specs.Placed.{are_peers}
use Rattle.dd_wire.specs.Refusal.{Refusal, bad_pin}
use Rattle.dd_wire.specs.declared.reply.Reply.{Reply}
use Rattle.dd_wire.specs.declared.reply.Reply.TheVariants as reply
use Rattle.dd_wire.specs.declared.request.Request.{Request}
use Rattle.dd_wire.specs.declared.request.Request.TheVariants.{Peers, Put, Ask, Check, Versions}
use Rattle.dd_read.specs.Asks.{IsJobAt, budget_of, closures_pass}
use Rattle.dd_read.specs.Judged.{JudgesValue}
use Rattle.dd_read.specs.Read.{IsAsked, question_at}
use Rattle.dd_read.specs.State.{State, names_of, peer_count, present_pin, with_put}
use Rattle.dd_read.specs.Tests.{MayBeAsked, may_be_put}
use Rattle.dd_read.specs.Told.{Refuses, RefusesPut}
use Rattle.dd_read.specs.declared.kept.Kept.{Kept}
use Rattle.dd_read.specs.declared.kept.Kept.TheVariants.{Finished, Asked}
use Rattle.dd_read.specs.declared.obeyed.Obeyed.{Obeyed}
use Rattle.dd_read.specs.declared.obeyed.Obeyed.TheVariants.{Stays, Cut}
use Rattle.dd_read.specs.declared.options.Options.{Options}

-- what the tests before have made sure of
abbrev pub Fits : State → Request → Type 0
Fits s (Peers names) = (are_peers names ≡ true) × (s.peers ≡ None)
Fits s (Put n v) = n < peer_count s
Fits s (Ask q expansions verdicts) = q.peer < peer_count s
Fits s (Check q pin cert) = IsSome s.peers
Fits s Versions = IsSome s.peers

-- the reply to a check, by whether its pin is one
abbrev pub CheckBy : Bool → ℕ → Question → SymbolLists → Data → Reply → Type 0
CheckBy true id q s cert given = JudgesValue id q s cert given
CheckBy false id q s cert given = given ≡ reply.Refused id bad_pin None

-- a put is told of with its peer's name and its number
abbrev pub IsPutReply : State → ℕ → ℕ → State → Kept → Type 0
IsPutReply old id n new kept = (name : List ℕ) × (slice_get (names_of old) n ≡ Some name) × (kept ≡ Finished (reply.Put id name (last_version n new.history)))

-- the request was obeyed, and its symbols stay
abbrev pub StaysBy : Options → State → ℕ → Request → State → Kept → Type 0
StaysBy o old id (Peers names) new kept = (new ≡ record old { peers = Some names }) × (kept ≡ Finished (reply.Peers id (length names)))
StaysBy o old id (Put n v) new kept = (may_be_put old n v ≡ Ok true) × (new ≡ with_put old old.symbols n v) × IsPutReply old id n new kept
StaysBy o old id (Ask q expansions verdicts) new kept = (new ≡ old) × MayBeAsked old q (budget_of o expansions verdicts) (Ok true)
    × IsAsked old id q (budget_of o expansions verdicts) kept
StaysBy o old id (Check q pin cert) new kept = ⊥
StaysBy o old id Versions new kept = (new ≡ old) × (kept ≡ Finished (reply.Versions id (record { versions = present_pin old })))

-- the request was refused, or is a check, and its symbols go
abbrev pub CutBy : Options → State → ℕ → Request → Kept → Type 0
CutBy o old id (Peers names) kept = ⊥
CutBy o old id (Put n v) kept = (e : Refusal) × (may_be_put old n v ≡ Err e) × (given : Reply) × (kept ≡ Finished given) × Refuses id e given
CutBy o old id (Ask q expansions verdicts) kept = (e : Refusal) × MayBeAsked old q (budget_of o expansions verdicts) (Err e)
    × (given : Reply) × (kept ≡ Finished given) × Refuses id e given
CutBy o old id (Check q pin cert) kept = (given : Reply) × (kept ≡ Finished given)
    × CheckBy (is_pin (peer_count old) pin.versions old.history) id (question_at old pin.versions q) old.symbols (view cert) given
CutBy o old id Versions kept = ⊥

-- an ask whose budget is within its limits is kept, or is refused by its closures
abbrev pub AskBy : State → ℕ → Query → Budget → Obeyed → Type 0
AskBy s id q budget (Stays kept) = (job : Job) × IsJobAt s q budget job × (closures_pass job ≡ Ok true)
    × (kept ≡ Asked (record { id = id; pin = record { versions = present_pin s }; job = job }))
AskBy s id q budget (Cut kept) = (job : Job) × IsJobAt s q budget job × (e : Refusal) × (closures_pass job ≡ Err e)
    × (given : Reply) × (kept ≡ Finished given) × Refuses id e given

-- what a put did to the accepted puts
abbrev pub PutsIn : Registered → ℕ → List ℕ → ℕ → PeerVersion → Registered → Obeyed → Type 0
PutsIn old id name n v new (Stays kept) = (refusal_at old n v ≡ None) × (new ≡ with_one old n v) × (kept ≡ Finished (reply.Put id name (last_version n new.history)))
PutsIn old id name n v new (Cut kept) = (new ≡ old) × (e : PutErr) × (refusal_at old n v ≡ Some e) × (given : Reply) × (kept ≡ Finished given) × RefusesPut id e given

-- what the request did
abbrev pub DoesRequest : Options → State → ℕ → Request → State → Obeyed → Type 0
DoesRequest o old id r new (Stays kept) = StaysBy o old id r new kept
DoesRequest o old id r new (Cut kept) = (new ≡ record old { symbols = new.symbols }) × CutBy o old id r kept

-- what is kept of it
abbrev pub kept_of : Obeyed → Kept
kept_of (Stays kept) = kept
kept_of (Cut kept) = kept
