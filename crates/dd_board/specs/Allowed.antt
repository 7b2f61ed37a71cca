-- Which events are allowed in a session.
use Rattle.std.specs.Prelude.{◌≡◌, ℕ, true, List, map, take, length, Some, slice_get}
use Rattle.dd_interp.specs.declared.interp.Interp.{Interp}
use Rattle.dd_task.specs.declared.line.Line.{Line}
use Rattle.dd_task.specs.declared.line.Prop.{Prop}
use Rattle.dd_task.specs.declared.verdict.SpentRun.{SpentRun}
use Rattle.dd_task.specs.Goals.{goal_for}
use Rattle.dd_task.specs.Verdicts.{IsRightClosed, IsRightOpen, IsRightSpent}
use Rattle.dd_board.specs.declared.event.Event.{Event}
use Rattle.dd_board.specs.declared.event.Event.TheVariants as event
use Rattle.dd_board.specs.View.{Holder, Task, SessionView, props_for}
use Rattle.dd_board.specs.Wanted.{IsWanted, is_due}
use Rattle.dd_board.specs.Standing.{IsGoing}
use Rattle.dd_board.specs.Moved.{moved_line}

-- task t is there, and is held with this number
pub record IsHeld (v : SessionView) (t number : ℕ) : Type 0 where
  pub task : Task
  pub at : slice_get v.tasks t ≡ Some task
  pub holder : Holder
  pub held : task.holder ≡ Some holder
  pub with_number : holder.number ≡ number

-- the propagations that the holder saw
abbrev pub view_of : SessionView → Task → Holder → List Prop
view_of v task holder = take holder.seen (props_for v task)

-- a due and wanted task of a session that is going is taken with the next number, and all propagations are seen
pub record MayTake (v : SessionView) (t number seen : ℕ) : Type 0 where
  pub task : Task
  pub at : slice_get v.tasks t ≡ Some task
  pub going : IsGoing v
  pub due : is_due v task ≡ true
  pub wanted : IsWanted v t
  pub drawn : number ≡ v.next
  pub sees : seen ≡ length (props_for v task)

-- the lines are those of a right verdict, moved behind the session's
pub record MayClose (v : SessionView) (t number count : ℕ) (lines : List Line) : Type 0 where
  pub by : IsHeld v t number
  pub going : IsGoing v
  pub own : List Line
  pub right : IsRightClosed v.job (goal_for v.job by.task.key) (view_of v by.task by.holder) own
  pub moved : lines ≡ map (moved_line (view_of v by.task by.holder) (length v.lines)) own
  pub counted : count ≡ length lines

pub record MayOpen (v : SessionView) (t number : ℕ) (m : Interp) (x : ℕ) : Type 0 where
  pub by : IsHeld v t number
  pub going : IsGoing v
  pub right : IsRightOpen v.job (goal_for v.job by.task.key) (view_of v by.task by.holder) m x

pub record MaySpend (v : SessionView) (t number : ℕ) (run : SpentRun) : Type 0 where
  pub by : IsHeld v t number
  pub going : IsGoing v
  pub right : IsRightSpent v.job (goal_for v.job by.task.key) (view_of v by.task by.holder) run

-- by cases of the event; `lines` are those that a closed verdict brings
abbrev pub IsAllowed : SessionView → Event → List Line → Type 0
IsAllowed v (event.Take t worker number seen) lines = MayTake v t number seen
IsAllowed v (event.Closed t number count) lines = MayClose v t number count lines
IsAllowed v (event.Opened t number m x) lines = MayOpen v t number m x
IsAllowed v (event.Spent t number run) lines = MaySpend v t number run
IsAllowed v (event.Give t number) lines = IsHeld v t number
