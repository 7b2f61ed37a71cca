-- What posting a verdict, and giving a ticket back, does.
use Rattle.std.specs.Prelude.{ℕ, ◌≡◌, ◌≢◌, ◌<◌, ◌≤◌, List, [], length, take, Option, None, Some, slice_get, map}
use Rattle.std.specs.Option.{option_map, option_map_or}
use Rattle.dd_task.specs.declared.line.Line.{Line}
use Rattle.dd_task.specs.declared.line.Prop.{Prop}
use Rattle.dd_task.specs.declared.verdict.Verdict.{Verdict}
use Rattle.dd_task.specs.declared.verdict.Verdict.TheVariants as verdict
use Rattle.dd_board.specs.declared.event.Event.{Event}
use Rattle.dd_board.specs.declared.event.Event.TheVariants as event
use Rattle.dd_board.specs.declared.ticket.Posted.{Posted}
use Rattle.dd_board.specs.declared.ticket.Posted.TheVariants as posted
use Rattle.dd_board.specs.View.{Holder, Task, SessionView, into_peer}
use Rattle.dd_board.specs.Standing.{IsGoing}
use Rattle.dd_board.specs.Moved.{moved_line}
use Rattle.dd_board.specs.Boards.{TicketView, IsEvent, task_at}

-- the number of the task's holder now
abbrev pub holder_now : List SessionView → TicketView → Option ℕ
holder_now board ticket = option_map_or (λ (task : Task). option_map (λ (h : Holder). h.number) task.holder) (task_at board ticket.session ticket.task) None

-- the propagations into the peer of the ticket's goal now
abbrev pub props_now : List SessionView → TicketView → List Prop
props_now board ticket = option_map_or (λ (s : SessionView). into_peer s.props ticket.goal.peer) (slice_get board ticket.session) []

-- The ticket is that of the task's holder: the task is there and is held with the ticket's number, key and job are the
-- ticket's, and the propagations that the holder saw are the ticket's view.
pub record IsTakenIn (session : SessionView) (ticket : TicketView) : Type 0 where
  pub task : Task
  pub task_at : slice_get session.tasks ticket.task ≡ Some task
  pub holder : Holder
  pub held : task.holder ≡ Some holder
  pub number : holder.number ≡ ticket.number
  pub key : task.key ≡ ticket.key
  pub job : session.job ≡ ticket.job
  pub view : take (length ticket.view) (into_peer session.props ticket.goal.peer) ≡ ticket.view
  pub seen : holder.seen ≡ length ticket.view

pub record IsTaken (board : List SessionView) (ticket : TicketView) : Type 0 where
  pub session : SessionView
  pub at : slice_get board ticket.session ≡ Some session
  pub by : IsTakenIn session ticket

-- the first place at which the propagations differ from the view, or the view's length; a shorter list differs at its length
pub record IsFirstDifference (props view : List Prop) (n : ℕ) : Type 0 where
  pub within : n ≤ length view
  pub same : take n props ≡ take n view
  pub differs : n < length view → slice_get props n ≢ slice_get view n

-- it is not, and these are the numbers that say how far
pub record IsNotTaken (board : List SessionView) (ticket : TicketView) (holder : Option ℕ) (number view : ℕ) : Type 0 where
  pub not_taken : ¬ (IsTaken board ticket)
  pub holder_is : holder ≡ holder_now board ticket
  pub number_is : number ≡ ticket.number
  pub view_is : IsFirstDifference (props_now board ticket) ticket.view view

-- the session of the ticket is going
abbrev pub IsGoingAt : List SessionView → TicketView → Type 0
IsGoingAt board ticket = (s : SessionView) → slice_get board ticket.session ≡ Some s → IsGoing s

-- how many lines the ticket's session has
abbrev pub lines_in : List SessionView → ℕ → ℕ
lines_in board n = option_map_or (λ (s : SessionView). length s.lines) (slice_get board n) 0

-- the lines that a verdict brings, numbered as those of the session, and its event
abbrev pub lines_by : List SessionView → TicketView → Verdict → List Line
lines_by board ticket (verdict.Closed lines) = map (moved_line ticket.view (lines_in board ticket.session)) lines
lines_by board ticket (verdict.Open m x) = []
lines_by board ticket (verdict.Spent run) = []

abbrev pub event_by : TicketView → Verdict → Event
event_by ticket (verdict.Closed lines) = event.Closed ticket.task ticket.number (length lines)
event_by ticket (verdict.Open m x) = event.Opened ticket.task ticket.number m x
event_by ticket (verdict.Spent run) = event.Spent ticket.task ticket.number run

-- the ticket is given back
abbrev pub IsGiven : List SessionView → List SessionView → TicketView → Type 0
IsGiven old new ticket = IsEvent ticket.session (event.Give ticket.task ticket.number) [] old new

-- a verdict is posted, or only the ticket given back where the session is not going, or nothing is done
abbrev pub Posts : List SessionView → List SessionView → TicketView → Verdict → Posted → Type 0
Posts old new ticket v posted.Ok = IsTaken old ticket × IsGoingAt old ticket × IsEvent ticket.session (event_by ticket v) (lines_by old ticket v) old new
Posts old new ticket v posted.Ended = IsTaken old ticket × (¬ (IsGoingAt old ticket)) × IsGiven old new ticket
Posts old new ticket v (posted.NotTaken holder number view) = (new ≡ old) × IsNotTaken old ticket holder number view

-- a ticket is given back, or nothing is done
abbrev pub GivesBack : List SessionView → List SessionView → TicketView → Posted → Type 0
GivesBack old new ticket posted.Ok = IsTaken old ticket × IsGiven old new ticket
GivesBack old new ticket posted.Ended = ⊥
GivesBack old new ticket (posted.NotTaken holder number view) = (new ≡ old) × IsNotTaken old ticket holder number view
