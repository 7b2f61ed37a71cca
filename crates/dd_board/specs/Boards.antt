-- A board: its sessions, in the order in which they were opened. Where something is read of it.
use Rattle.std.specs.Prelude.{ℕ, ◌≡◌, List, Option, Some, slice_get, length, option_and_then}
use Rattle.std.specs.Option.{option_map, option_map_or}
use Rattle.dd_task.specs.declared.job.Goal.{Goal}
use Rattle.dd_task.specs.declared.job.Job.{Job}
use Rattle.dd_task.specs.declared.job.Key.{Key}
use Rattle.dd_task.specs.declared.line.Line.{Line}
use Rattle.dd_task.specs.declared.line.Prop.{Prop}
use Rattle.dd_board.specs.declared.event.Event.{Event}
use Rattle.dd_board.specs.View.{Task, SessionView, change_at}
use Rattle.dd_board.specs.Steps.{apply}
use Rattle.dd_board.specs.Allowed.{IsAllowed}
use Rattle.dd_board.specs.Legal.{IsLegal}

-- task t of session n, where it is there
abbrev pub task_at : List SessionView → ℕ → ℕ → Option Task
task_at board n t = option_and_then (λ (s : SessionView). slice_get s.tasks t) (slice_get board n)

-- how many tasks session n has, and how many peers
abbrev pub tasks_in : List SessionView → ℕ → ℕ
tasks_in board n = option_map_or (λ (s : SessionView). length s.tasks) (slice_get board n) 0

abbrev pub peers_in : List SessionView → ℕ → ℕ
peers_in board n = option_map_or (λ (s : SessionView). length s.job.pinned.peers) (slice_get board n) 0

-- something of session n
abbrev pub of_session : {A : Type 0} → (SessionView → A) → List SessionView → ℕ → Option A
of_session f board n = option_map f (slice_get board n)

-- what is said of session n, where it is there
abbrev pub OfSession : (SessionView → Type 0) → List SessionView → ℕ → Type 0
OfSession P board n = (s : SessionView) → slice_get board n ≡ Some s → P s

-- each session came about by allowed events
abbrev pub AreLegal : List SessionView → Type 0
AreLegal board = (n : ℕ) → OfSession IsLegal board n

-- one allowed event of session n, and nothing else
pub record IsEvent (n : ℕ) (e : Event) (lines : List Line) (old new : List SessionView) : Type 0 where
  pub session : SessionView
  pub at : slice_get old n ≡ Some session
  pub allowed : IsAllowed session e lines
  pub after : new ≡ change_at (λ s. apply s e lines) old n

-- a ticket, as contracts see it
pub record TicketView : Type 0 where
  pub session : ℕ
  pub task : ℕ
  pub number : ℕ
  pub job : Job
  pub key : Key
  pub goal : Goal
  pub view : List Prop
