-- When a verdict is right for a goal, under a list of propagations into the goal's peer: its view.
use Rattle.std.specs.Prelude.{◌≡◌, ℕ, ◌<◌, ◌≤◌, ◌==◌, ◌&&◌, ◌++◌, Bool, true, Some, List, [], ◌∷◌, length, All, bytes_eq, slice_get}
use Rattle.std.specs.List.{list_any}
use Rattle.dd_concept.specs.declared.concept.Concept.{Concept}
use Rattle.dd_concept.specs.Reached.{IsReached}
use Rattle.dd_concept.specs.Same.{is_same, is_within, SameSet}
use Rattle.dd_interp.specs.declared.interp.Interp.{Interp}
use Rattle.dd_interp.specs.Labels.{HasLabel}
use Rattle.dd_interp.specs.Lean.{IsLean}
use Rattle.dd_interp.specs.Satisfies.{IsShaped, SatisfiesAxioms}
use Rattle.dd_peer.specs.declared.version.Pinned.{Pinned}
use Rattle.dd_peer.specs.declared.version.Rule.{Rule}
use Rattle.dd_set.specs.Words.{Label}
use Rattle.dd_task.specs.declared.job.Goal.{Goal}
use Rattle.dd_task.specs.declared.job.Job.{Job}
use Rattle.dd_task.specs.declared.line.Line.{Line}
use Rattle.dd_task.specs.declared.line.Prop.{Prop}
use Rattle.dd_task.specs.declared.line.Why.{Why}
use Rattle.dd_task.specs.declared.line.Why.TheVariants as why
use Rattle.dd_task.specs.declared.verdict.SpentRun.{SpentRun}
use Rattle.dd_task.specs.declared.verdict.Verdict.{Verdict}
use Rattle.dd_task.specs.declared.verdict.Verdict.TheVariants as verdict
use Rattle.dd_task.specs.Closure.{IsClosureFor}
use Rattle.dd_task.specs.Derives.{EndsWithin}
use Rattle.dd_task.specs.Goals.{claims_of_view}
use Rattle.dd_task.specs.Lines.{is_there, AreRightAfter}
use Rattle.dd_task.specs.Rules.{axioms_of, all_onto}
use Rattle.dd_task.specs.Spent.{label_of}
use Rattle.dd_task.specs.Targets.{SatisfiesProp, propagations_of}

-- ---- Closed

-- is the concept of a cut the target of one of these rules
abbrev pub cuts_target : List Rule → Why → Bool
cuts_target onto (why.Cut on left right) = list_any (λ (rule : Rule). is_same rule.target on) onto
cuts_target onto _ = true

-- does a bridge cite the claim of a propagation of the view, and name that propagation's rules
abbrev pub cites_view : List Prop → Why → Bool
cites_view view (why.Bridge from o ks cite each) =
    is_there (slice_get view cite) (λ (t : Prop). ((t.from == from) && (t.onto == o)) && bytes_eq t.into_set ks)
cites_view view _ = true

-- The lines of one peer that show, after one claim for each propagation of the view, that no element of it has the goal's
-- label: in the concepts of this closure, with cuts on targets of its onto rules alone, and bridges by the view alone.
pub record IsRightClosedBy (p : Pinned) (peer : ℕ) (view : List Prop) (closure goal : List Concept) (lines : List Line) : Type 0 where
  pub right : AreRightAfter p (claims_of_view p peer view) lines
  pub own : All (λ (line : Line). line.peer ≡ peer) lines
  pub inside : All (λ (line : Line). is_within line.label closure ≡ true) lines
  pub cuts : All (λ (line : Line). cuts_target (all_onto p peer) line.why ≡ true) lines
  pub bridges : All (λ (line : Line). cites_view view line.why ≡ true) lines
  pub last : EndsWithin peer goal lines

-- such lines in the concepts of the peer's closure for the job
pub record IsRightClosed (job : Job) (goal : Goal) (view : List Prop) (lines : List Line) : Type 0 where
  pub closure : List Concept
  pub is_closure : IsClosureFor job goal.peer closure
  pub by : IsRightClosedBy job.pinned goal.peer view closure goal.label lines

-- ---- Open

-- a model of the peer's axioms and of the propagations with an element that has the goal's label, with at most as many elements
-- as a run may put labels, and lean
pub record IsRightOpen (job : Job) (goal : Goal) (view : List Prop) (m : Interp) (x : ℕ) : Type 0 where
  pub shaped : IsShaped m
  pub axioms : SatisfiesAxioms m (axioms_of job.pinned goal.peer)
  pub props : All (SatisfiesProp job.pinned goal.peer m) view
  pub element : x < m.size
  pub label : HasLabel m x goal.label
  pub few : m.size ≤ job.budget.expansions
  pub lean : IsLean (axioms_of job.pinned goal.peer) (propagations_of job.pinned goal.peer view) (goal.label ∷ []) m

-- ---- Spent

-- the labels that the run put, and the one that it would have put next
abbrev pub all_labels : SpentRun → List Label
all_labels run = run.labels ++ run.next ∷ []

-- the run has the goal alone and the view, and has put as many labels as it may; these and the next one are different as sets
-- of concepts, and each is reached from the goal over the view
pub record IsRightSpent (job : Job) (goal : Goal) (view : List Prop) (run : SpentRun) : Type 0 where
  pub peer : run.peer ≡ goal.peer
  pub goals : run.goals ≡ goal ∷ []
  pub props : run.props ≡ view
  pub count : length run.labels ≡ job.budget.expansions
  pub distinct : (j k : ℕ) (a b : Label) → slice_get (all_labels run) j ≡ Some a → slice_get (all_labels run) k ≡ Some b
      → SameSet (label_of run.concepts a) (label_of run.concepts b) → j ≡ k
  pub reached : (k : ℕ) (a : Label) → slice_get (all_labels run) k ≡ Some a
      → IsReached (axioms_of job.pinned goal.peer) (propagations_of job.pinned goal.peer view) (goal.label ∷ []) (label_of run.concepts a)

-- ---- all three

-- the verdict is right for a ticket of the job with this goal and this view
abbrev pub IsRight : Job → Goal → List Prop → Verdict → Type 0
IsRight job goal view (verdict.Closed lines) = IsRightClosed job goal view lines
IsRight job goal view (verdict.Open m x) = IsRightOpen job goal view m x
IsRight job goal view (verdict.Spent run) = IsRightSpent job goal view run
