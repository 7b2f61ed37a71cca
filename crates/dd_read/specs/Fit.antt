-- What holds of all that a window keeps: of the jobs of its asks, and of its replies.
use Rattle.std.specs.Prelude.{ℕ, ◌≡◌, ◌<◌, true, List, All, length}
use Rattle.dd_peer.specs.Relevant.{AreRelevant, is_in}
use Rattle.dd_peer.specs.declared.version.Rule.{Rule}
use Rattle.dd_peer.specs.Versions.{IsNumbered}
use Rattle.dd_pin.specs.History.{AreAccepted, is_pin, pinned_by}
use Rattle.dd_pin.specs.declared.registry.Accepted.{Accepted}
use Rattle.dd_run.specs.Fit.{HasFewConcepts}
use Rattle.dd_run.specs.Given.{given_of}
use Rattle.dd_task.specs.Rules.{all_onto}
use Rattle.dd_task.specs.declared.job.Job.{Job}
use Rattle.dd_text.specs.Reads.{IsSmall, request_limits}
use Rattle.dd_text.specs.Symbols.{SymbolLists}
use Rattle.dd_wire.specs.Replies.{IsPrintable}
use Rattle.dd_wire.specs.Requests.{IsWritten, concepts_of}
use Rattle.dd_read.specs.Asks.{is_budget}
use Rattle.dd_read.specs.State.{State, peer_count}
use Rattle.dd_read.specs.declared.kept.Ask.{Ask}
use Rattle.dd_read.specs.declared.kept.Kept.{Kept}
use Rattle.dd_read.specs.declared.kept.Kept.TheVariants.{Finished, Asked}

-- Each version is one that its peer may have. The query's peer is declared, and the peers that bear on it are listed. Their
-- closures have few enough concepts, and the budget is within its limits. All concepts that the job gives are written with
-- the symbols and are within the limits of requests, and so are the targets of all onto rules.
pub record IsFitJob (symbols : SymbolLists) (job : Job) : Type 0 where
  pub accepted : AreAccepted job.pinned
  pub asked : job.query.peer < length job.pinned.peers
  pub relevant : AreRelevant job.pinned job.query.peer job.relevant
  pub few : (i : ℕ) → is_in job.relevant i ≡ true → HasFewConcepts job i
  pub within : is_budget job.budget ≡ true
  pub written : All (IsWritten symbols) (given_of job)
  pub targets : (i : ℕ) → All (λ (r : Rule). IsSmall request_limits r.target) (all_onto job.pinned i)

-- the pin of an ask is one of the history, and its job, which is fit, is under that pin
pub record IsFitAsk (state : State) (ask : Ask) : Type 0 where
  pub pin : is_pin (peer_count state) ask.pin.versions state.history ≡ true
  pub pinned : ask.job.pinned ≡ pinned_by ask.pin.versions state.history
  pub job : IsFitJob state.symbols ask.job

-- an ask that is kept is fit, and a reply that is kept can be printed
abbrev pub IsFitKept : State → Kept → Type 0
IsFitKept state (Finished given) = IsPrintable given
IsFitKept state (Asked ask) = IsFitAsk state ask

-- the version of an accepted put can be numbered, and all its concepts are written with the symbols
abbrev pub IsKnownPut : SymbolLists → Accepted → Type 0
IsKnownPut symbols a = IsNumbered a.version × All (IsWritten symbols) (concepts_of a.version)

-- the puts of the state are such, and all that is kept is fit
pub record IsSound (state : State) (kept : List Kept) : Type 0 where
  pub puts : All (IsKnownPut state.symbols) state.history
  pub fit : All (IsFitKept state) kept
