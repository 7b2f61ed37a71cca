-- Which sessions can come about.
use Rattle.std.specs.Prelude.{◌≡◌, ℕ, ◌<◌, ◌≤◌, true, List, [], ◌∷◌, length, map, All, Some, slice_get}
use Rattle.dd_concept.specs.declared.concept.Concept.{Concept}
use Rattle.dd_concept.specs.Counts.{node_count, depth_of}
use Rattle.dd_concept.specs.Same.{is_within}
use Rattle.dd_peer.specs.declared.version.Pinned.{Pinned}
use Rattle.dd_peer.specs.Relevant.{is_in}
use Rattle.dd_task.specs.declared.job.Job.{Job}
use Rattle.dd_task.specs.declared.job.Key.TheVariants.{Root}
use Rattle.dd_task.specs.declared.line.Line.{Line}
use Rattle.dd_task.specs.declared.line.Prop.{Prop}
use Rattle.dd_task.specs.Goals.{asked_label}
use Rattle.dd_task.specs.Lines.{AreRight}
use Rattle.dd_board.specs.declared.event.Event.{Event}
use Rattle.dd_board.specs.View.{Start, SessionView, into_peer}
use Rattle.dd_board.specs.Steps.{new_task, apply}
use Rattle.dd_board.specs.Allowed.{IsAllowed}
use Rattle.dd_board.specs.Fit.{HasRules}

-- a session begins with its start and with the root task, unknown and not held
abbrev pub begun : Job → Start → SessionView
begun job start = record {
  job = job;
  start = start;
  tasks = new_task Root ∷ [];
  lines = start.lines;
  props = start.props;
  journal = [];
  next = 0;
}

-- the start with nothing
abbrev pub empty_start : Pinned → Start
empty_start p = record { lines = []; props = map (λ v. []) p.peers }

-- the propagation's line is among the lines: it is of the peer that the propagation comes from, and its label is within the one
-- that the propagation stands for
pub record IsProvedBy (p : Pinned) (i : ℕ) (lines : List Line) (prop : Prop) : Type 0 where
  pub proof : Line
  pub at : slice_get lines prop.line ≡ Some proof
  pub peer : proof.peer ≡ prop.from
  pub within : is_within proof.label (asked_label p prop.from i prop.onto prop.into_set) ≡ true

-- the concept is within the limits of certificates
pub record IsSmall (c : Concept) : Type 0 where
  pub nodes : node_count c ≤ 2000
  pub depth : depth_of c ≤ 65

-- What a session may begin with: right lines of relevant peers, and for each peer propagations into it, by rules that are there,
-- each with its line. There are none into peers that are not relevant.
pub record IsStart (job : Job) (start : Start) : Type 0 where
  pub declared : job.query.peer < length job.pinned.peers
  pub each_peer : length start.props ≡ length job.pinned.peers
  pub right : AreRight job.pinned start.lines
  pub peers : All (λ (line : Line). is_in job.relevant line.peer ≡ true) start.lines
  pub small : All (λ (line : Line). All IsSmall line.label) start.lines
  pub into_relevant : (i n : ℕ) (prop : Prop) → slice_get (into_peer start.props i) n ≡ Some prop → is_in job.relevant i ≡ true
  pub by_rules : (i : ℕ) → All (HasRules job.pinned i) (into_peer start.props i)
  pub proved : (i : ℕ) → All (IsProvedBy job.pinned i start.lines) (into_peer start.props i)

-- the session comes from its beginning by allowed events
pub data Runs (job : Job) (start : Start) : SessionView → Type 0 where
  opened : IsStart job start → Runs job start (begun job start)
  stepped : (v : SessionView) (e : Event) (lines : List Line) → Runs job start v → IsAllowed v e lines → Runs job start (apply v e lines)

-- it is the replay of its own journal, each event of which was allowed
abbrev pub IsLegal : SessionView → Type 0
IsLegal v = ∥ Runs v.job v.start v ∥₁
