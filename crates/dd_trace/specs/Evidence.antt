-- What a session shows whose root is proved.
use Rattle.std.specs.Prelude.{◌≡◌, ◌≤◌, ℕ, true, List, All, length, Some, slice_get}
use Rattle.dd_concept.specs.declared.concept.Concept.{Concept}
use Rattle.dd_concept.specs.Same.{is_within}
use Rattle.dd_peer.specs.Relevant.{is_in}
use Rattle.dd_task.specs.declared.job.Job.{Job}
use Rattle.dd_task.specs.declared.line.Line.{Line}
use Rattle.dd_task.specs.Closure.{IsClosedOver, extra_for}
use Rattle.dd_task.specs.Derives.{Derives}
use Rattle.dd_task.specs.Rules.{all_onto, axioms_of}
use Rattle.dd_task.specs.Verdicts.{cuts_target}
use Rattle.dd_trim.specs.Cited.{renumbered}
use Rattle.dd_trim.specs.Trimmed.{AreNeeded}
use Rattle.dd_board.specs.View.{SessionView}

-- the concepts of the label are in the closure of the peer for the job: each list that is closed as the closure is has them
abbrev pub IsInClosure : Job → ℕ → List Concept → Type 0
IsInClosure job i label = (other : List Concept) → IsClosedOver (axioms_of job.pinned i) (extra_for job i) other → is_within label other ≡ true

-- The concepts of the line are in the closure of its peer, so they are made of parts of the relevant versions and of the query;
-- where it is a cut, its concept is the target of an onto rule that the peer keeps.
pub record IsOwn (job : Job) (line : Line) : Type 0 where
  pub inside : IsInClosure job line.peer line.label
  pub cuts : cuts_target (all_onto job.pinned line.peer) line.why ≡ true

-- the line is one of the session, but for the numbers of the lines that it cites; where the session did not begin with it, it is its own
pub record IsOfSession (v : SessionView) (line : Line) : Type 0 where
  pub place : ℕ
  pub source : Line
  pub at : slice_get v.lines place ≡ Some source
  pub number : ℕ → ℕ
  pub same : line ≡ renumbered number source
  pub own : length v.start.lines ≤ place → IsOwn v.job line

-- the lines derive the query, each is one of the session's and of a relevant peer, and the last one needs them all
pub record ShowsYes (v : SessionView) (lines : List Line) : Type 0 where
  pub derives : Derives v.job.pinned v.job.query lines
  pub relevant : All (λ (line : Line). is_in v.job.relevant line.peer ≡ true) lines
  pub each : (n : ℕ) (line : Line) → slice_get lines n ≡ Some line → IsOfSession v line
  pub needed : AreNeeded lines
