-- Whether a task is held by a ticket. Private clauses alone cite this.
use Rattle.std.specs.Prelude.{ℕ, ◌≡◌, List, Option, None, Some, length, slice_get}
use Rattle.std.specs.Option.{option_map, option_map_or}
use Rattle.dd_board.specs.declared.ticket.Posted.{Posted}
use Rattle.dd_board.specs.declared.ticket.Posted.TheVariants as posted
use Rattle.dd_board.specs.View.{Holder, Task, SessionView}
use Rattle.dd_board.specs.Boards.{TicketView}
use Rattle.dd_board.specs.Posts.{IsNotTaken}

-- the task is held with the ticket's number, which saw as many propagations, and has the ticket's key
pub record IsHolderOf (task : Task) (ticket : TicketView) : Type 0 where
  pub holder : Holder
  pub held : task.holder ≡ Some holder
  pub number : holder.number ≡ ticket.number
  pub seen : holder.seen ≡ length ticket.view
  pub key : task.key ≡ ticket.key

-- so it is with the session's task, and the job is the ticket's
pub record HasHolder (session : SessionView) (ticket : TicketView) : Type 0 where
  pub task : Task
  pub task_at : slice_get session.tasks ticket.task ≡ Some task
  pub by : IsHolderOf task ticket
  pub job : session.job ≡ ticket.job

pub record IsHeldOn (board : List SessionView) (ticket : TicketView) : Type 0 where
  pub session : SessionView
  pub at : slice_get board ticket.session ≡ Some session
  pub by : HasHolder session ticket

-- the number of the task's holder
abbrev pub number_in : Option Task → Option ℕ
number_in task = option_map_or (λ (x : Task). option_map (λ (h : Holder). h.number) x.holder) task None

-- that the ticket is not the holder's, as it is answered
abbrev pub NotTakenAs : List SessionView → TicketView → Posted → Type 0
NotTakenAs board ticket posted.Ok = ⊥
NotTakenAs board ticket posted.Ended = ⊥
NotTakenAs board ticket (posted.NotTaken holder number view) = IsNotTaken board ticket holder number view
