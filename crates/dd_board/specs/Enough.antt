-- Budgets that no session uses up.
use Rattle.std.specs.Prelude.{◌≡◌, ◌≢◌, ℕ, ◌^◌, ◌<◌, true, List, length}
use Rattle.dd_concept.specs.declared.concept.Concept.{Concept}
use Rattle.dd_peer.specs.Relevant.{is_in}
use Rattle.dd_task.specs.declared.job.Job.{Job}
use Rattle.dd_task.specs.declared.job.Key.{Key}
use Rattle.dd_task.specs.declared.line.Prop.{Prop}
use Rattle.dd_task.specs.declared.verdict.SpentRun.{SpentRun}
use Rattle.dd_task.specs.Closure.{IsClosureFor}
use Rattle.dd_task.specs.Goals.{goal_for}
use Rattle.dd_task.specs.Verdicts.{IsRightSpent}
use Rattle.dd_board.specs.declared.event.Outcome.{Outcome}
use Rattle.dd_board.specs.declared.event.Outcome.TheVariants.{SpentRun as RunIsSpent, SpentVerdicts}
use Rattle.dd_board.specs.View.{SessionView}
use Rattle.dd_board.specs.Standing.{IsOutcome}
use Rattle.dd_board.specs.Bound.{enough_verdicts}
use Rattle.dd_board.specs.Fit.{IsPlaced, IsFitTask}
use Rattle.dd_board.specs.Legal.{IsLegal}

-- a run may put more labels than there are sets of concepts of the closure of its peer
abbrev pub HasEnoughRuns : Job → Type 0
HasEnoughRuns job = (i : ℕ) → is_in job.relevant i ≡ true → (closure : List Concept) × IsClosureFor job i closure × (2 ^ length closure < job.budget.expansions)

-- there may be more verdicts than the bound on posts
abbrev pub HasEnoughVerdicts : Job → Type 0
HasEnoughVerdicts job = enough_verdicts job < job.budget.verdicts

-- with enough runs no spent run is right, for whichever task of a session and under whichever view
abbrev pub NoRunIsSpent : Type 0
NoRunIsSpent = (job : Job) → HasEnoughRuns job → (key : Key) (view : List Prop) → IsFitTask job key view
    → (run : SpentRun) → IsRightSpent job (goal_for job key) view run → ⊥

-- with both, the outcome is none of those that a budget makes
abbrev pub EnoughIsNeverSpent : Type 0
EnoughIsNeverSpent = (v : SessionView) → IsLegal v → IsPlaced v.job → HasEnoughRuns v.job → HasEnoughVerdicts v.job
    → (o : Outcome) → IsOutcome v o → (o ≢ RunIsSpent) × (o ≢ SpentVerdicts)
