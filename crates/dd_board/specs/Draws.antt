-- A ticket that is drawn for a task of a session. Private clauses alone cite this.
use Rattle.std.specs.Prelude.{ℕ, ◌≡◌, ◌+◌, ◌^◌, ◌<◌, ◌≤◌, [], length, Some, slice_get, vec_capacity}
use Rattle.dd_task.specs.declared.job.Key.{Key}
use Rattle.dd_board.specs.declared.event.Event.TheVariants as event
use Rattle.dd_board.specs.declared.session.Session.{Session}
use Rattle.dd_board.specs.View.{Task, SessionView, props_for}
use Rattle.dd_board.specs.Steps.{apply}
use Rattle.dd_board.specs.Allowed.{MayTake}
use Rattle.dd_board.specs.Boards.{TicketView}

-- there is room for two more events, and they can be numbered, and so can the ticket
pub record MayHold (s : Session) : Type 0 where
  pub room : length s.journal.items + s.held + 2 ≤ vec_capacity s.journal
  pub numbered : length s.journal.items + s.held + 2 < 2 ^ 32
  pub next : s.next + 1 < 2 ^ 32

-- the task is there and has the key
pub record IsKeyAt (v : SessionView) (t : ℕ) (key : Key) : Type 0 where
  pub task : Task
  pub at : slice_get v.tasks t ≡ Some task
  pub same : task.key ≡ key

-- the ticket is one for task t of the session, whose number is n, with the next number
pub record IsFilled (v : SessionView) (n t : ℕ) (ticket : TicketView) : Type 0 where
  pub session : ticket.session ≡ n
  pub task_is : ticket.task ≡ t
  pub number : ticket.number ≡ v.next
  pub job : ticket.job ≡ v.job
  pub task : Task
  pub at : slice_get v.tasks t ≡ Some task
  pub key : ticket.key ≡ task.key
  pub view : ticket.view ≡ props_for v task

-- it is such a ticket, and the session notes it
pub record IsDrawnFrom (old new : SessionView) (n t worker : ℕ) (ticket : TicketView) : Type 0 where
  pub filled : IsFilled old n t ticket
  pub may : MayTake old t ticket.number (length ticket.view)
  pub after : new ≡ apply old (event.Take t worker ticket.number (length ticket.view)) []
