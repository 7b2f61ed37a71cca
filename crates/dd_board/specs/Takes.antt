-- What a take does.
use Rattle.std.specs.Prelude.{ℕ, ◌≡◌, ◌<◌, ◌≤◌, ◌⊎◌, true, List, [], length, Some, slice_get, is_some}
use Rattle.dd_board.specs.declared.event.Event.TheVariants as event
use Rattle.dd_board.specs.declared.ticket.Take.{Take}
use Rattle.dd_board.specs.declared.ticket.Take.TheVariants as take
use Rattle.dd_board.specs.View.{Task, SessionView, props_for, change_at}
use Rattle.dd_board.specs.Wanted.{IsWanted, is_due}
use Rattle.dd_board.specs.Standing.{IsGoing}
use Rattle.dd_board.specs.Steps.{apply}
use Rattle.dd_board.specs.Allowed.{MayTake}
use Rattle.dd_board.specs.Boards.{TicketView}

-- a wanted task of a session that is going
pub record IsAwaited (board : List SessionView) (n t : ℕ) : Type 0 where
  pub session : SessionView
  pub at : slice_get board n ≡ Some session
  pub going : IsGoing session
  pub task : Task
  pub task_at : slice_get session.tasks t ≡ Some task
  pub wanted : IsWanted session t

-- one that is due may be taken
pub record MayBeTaken (board : List SessionView) (n t : ℕ) : Type 0 where
  pub awaited : IsAwaited board n t
  pub due : is_due awaited.session awaited.task ≡ true

-- the ticket's task comes first of those that may be taken, by session and then task
abbrev pub IsFirstOf : List SessionView → ℕ → ℕ → Type 0
IsFirstOf board n t = (m u : ℕ) → MayBeTaken board m u → (n < m) ⊎ ((n ≡ m) × (t ≤ u))

-- the ticket is drawn, for the first task, with the propagations into its goal's peer as they are now
pub record IsDrawn (old new : List SessionView) (worker : ℕ) (ticket : TicketView) : Type 0 where
  pub session : SessionView
  pub at : slice_get old ticket.session ≡ Some session
  pub may : MayTake session ticket.task ticket.number (length ticket.view)
  pub job : ticket.job ≡ session.job
  pub key : ticket.key ≡ may.task.key
  pub view : ticket.view ≡ props_for session may.task
  pub first : IsFirstOf old ticket.session ticket.task
  pub after : new ≡ change_at (λ s. apply s (event.Take ticket.task worker ticket.number (length ticket.view)) []) old ticket.session

-- nothing may be taken, and a wanted task of a session that is going is held
pub record IsBusy (board : List SessionView) : Type 0 where
  pub none : (n t : ℕ) → MayBeTaken board n t → ⊥
  pub session : ℕ
  pub task : ℕ
  pub awaited : IsAwaited board session task
  pub held : is_some awaited.task.holder ≡ true

-- no session is going
abbrev pub IsSettled : List SessionView → Type 0
IsSettled board = (n : ℕ) (s : SessionView) → slice_get board n ≡ Some s → ¬ (IsGoing s)

abbrev pub Takes : List SessionView → List SessionView → ℕ → Take → Type 0
Takes old new worker (take.Ticket ticket) = IsDrawn old new worker ticket
Takes old new worker take.Busy = (new ≡ old) × IsBusy old
Takes old new worker take.Settled = (new ≡ old) × IsSettled old
