-- Laws of legal sessions.
use Rattle.std.specs.Prelude.{◌≡◌, ℕ, ◌+◌, ◌<◌, ◌≤◌, false, List, length, count_by, Some, slice_get}
use Rattle.dd_task.specs.declared.line.Line.{Line}
use Rattle.dd_board.specs.declared.event.Event.{Event}
use Rattle.dd_board.specs.declared.event.Outcome.{Outcome}
use Rattle.dd_board.specs.declared.event.Outcome.TheVariants.{Going}
use Rattle.dd_board.specs.Steps.{apply}
use Rattle.dd_task.specs.Goals.{peer_of}
use Rattle.dd_board.specs.declared.event.TaskState.TheVariants.{Open}
use Rattle.dd_board.specs.View.{Task, SessionView, into_peer, props_for}
use Rattle.dd_board.specs.Standing.{has_spent, IsOutcome}
use Rattle.dd_board.specs.Allowed.{MayTake, IsAllowed}
use Rattle.dd_board.specs.Legal.{IsLegal}
use Rattle.dd_board.specs.Bound.{is_post_on}

-- while no spent run was posted, a task has at most one post more than there came propagations into its peer since the start
abbrev pub PostsAreFew : Type 0
PostsAreFew = (v : SessionView) → IsLegal v → has_spent v ≡ false → (t : ℕ) (task : Task) → slice_get v.tasks t ≡ Some task
    → count_by (is_post_on t) v.journal + length (into_peer v.start.props (peer_of v.job task.key)) ≤ 1 + length (props_for v task)

-- a take of an open task sees more propagations than the task's model was made under
abbrev pub SeenGrows : Type 0
SeenGrows = (v : SessionView) → IsLegal v → (t number seen : ℕ) (may : MayTake v t number seen)
    → (at old : ℕ) (asks : List ℕ) → may.task.state ≡ Open at asks old → old < seen

-- an outcome other than Going stays under every allowed event
abbrev pub OutcomeStays : Type 0
OutcomeStays = (v : SessionView) (e : Event) (lines : List Line) (o : Outcome) → IsLegal v → IsAllowed v e lines → IsOutcome v o → ¬ (o ≡ Going)
    → IsOutcome (apply v e lines) o
