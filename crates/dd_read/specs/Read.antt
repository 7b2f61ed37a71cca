-- Reading one line that is a request: how it changes the state, and what it leaves for the end of its window.
use Rattle.std.specs.Prelude.{◌≡◌, ℕ, List, length, Option, Some, Ok, Err}
use Rattle.dd_text.specs.Symbols.{SymbolLists, number_of}
use Rattle.dd_peer.specs.Question.{Question}
use Rattle.dd_peer.specs.declared.version.Query.{Query}
use Rattle.dd_pin.specs.History.{last_version, pinned_by}
use Rattle.dd_task.specs.declared.job.Budget.{Budget}
use Rattle.dd_task.specs.declared.job.Job.{Job}
use Rattle.dd_wire.specs.Refusal.{Tested}
use Rattle.dd_wire.specs.Requests.{query_of, version_of}
use Rattle.dd_wire.specs.Texts.{Parsed, Resolved, peers, put, ask, check, versions}
use Rattle.dd_wire.specs.declared.reply.Reply.{Reply}
use Rattle.dd_wire.specs.declared.reply.Reply.TheVariants as reply
use Rattle.dd_read.specs.Asks.{budget_of, IsJobAt}
use Rattle.dd_read.specs.Judged.{JudgesValue}
use Rattle.dd_read.specs.State.{State, names_of, present_pin, with_put}
use Rattle.dd_read.specs.Tests.{Passes}
use Rattle.dd_read.specs.declared.kept.Kept.{Kept}
use Rattle.dd_read.specs.declared.kept.Kept.TheVariants.{Finished, Asked}
use Rattle.dd_read.specs.declared.options.Options.{Options}

-- an ask is kept with its job under the present pin
abbrev pub IsAsked : State → ℕ → Query → Budget → Kept → Type 0
IsAsked state id query budget kept = (job : Job) × IsJobAt state query budget job
    × (kept ≡ Asked (record { id = id; pin = record { versions = present_pin state }; job = job }))

-- a question under a pin
abbrev pub question_at : State → List ℕ → Query → Question
question_at state pin query = record { pinned = pinned_by pin state.history; query = query }

-- What a request does that no test refused: it leaves this state, and keeps this. The symbols are those with its own.
abbrev pub Does : Options → State → ℕ → SymbolLists → Parsed → State → Kept → Type 0
-- the peers are declared
Does options old id s (peers names) new kept =
    (new ≡ record old { peers = Some names }) × (kept ≡ Finished (reply.Peers id (length names)))
-- the put stands at the end of the history, and is replied to with the number of its version
Does options old id s (put peer axioms into onto) new kept = let n = number_of (names_of old) peer in
    (new ≡ with_put old s n (version_of (names_of old) s axioms into onto))
    × (kept ≡ Finished (reply.Put id peer (last_version n new.history)))
-- the ask is kept, and its symbols stay
Does options old id s (ask peer left right expansions verdicts) new kept =
    (new ≡ record old { symbols = s }) × IsAsked old id (query_of (names_of old) s peer left right) (budget_of options expansions verdicts) kept
-- the check is judged now, and leaves the state as it was, its symbols included
Does options old id s (check peer left right pin cert) new kept =
    (new ≡ old) × (given : Reply) × (kept ≡ Finished given)
    × JudgesValue id (question_at old pin (query_of (names_of old) s peer left right)) s cert given
-- the last version of each peer is told
Does options old id s versions new kept =
    (new ≡ old) × (kept ≡ Finished (reply.Versions id (record { versions = present_pin old })))

-- what the tests of a line found is done; a refusal changes nothing
abbrev pub Obeys : Options → State → ℕ → Tested Resolved → State → Kept → Type 0
Obeys options old id (Ok r) new kept = Does options old id r.symbols r.request new kept
Obeys options old id (Err e) new kept = (new ≡ old) × (kept ≡ Finished (reply.Refused id e.code e.n))

-- the line is read as the request with this number: its tests decide what is done
abbrev pub Read : Options → State → ℕ → List ℕ → State → Kept → Type 0
Read options old id line new kept = (found : Tested Resolved) × Passes options old line found × Obeys options old id found new kept
