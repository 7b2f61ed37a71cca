-- For private clauses alone: a ticket that is out, and how many verdicts may still be posted.
use Rattle.std.specs.Prelude.{◌≡◌, ℕ, ◌-◌, false, List, Some, is_some, slice_get, sum_by}
use Rattle.dd_board.specs.Boards.{TicketView}
use Rattle.dd_board.specs.Posts.{IsTaken, IsGoingAt}
use Rattle.dd_board.specs.Standing.{IsGoing, posts}
use Rattle.dd_board.specs.View.{Task, SessionView}

-- the ticket's task is held by it, in a session that is going, and no other task of such a session is held
pub record IsOut (board : List SessionView) (ticket : TicketView) : Type 0 where
  pub taken : IsTaken board ticket
  pub going : IsGoingAt board ticket
  pub only : (n : ℕ) (s : SessionView) → slice_get board n ≡ Some s → IsGoing s → (t : ℕ) (task : Task) → slice_get s.tasks t ≡ Some task
      → (n ≡ ticket.session → t ≡ ticket.task → ⊥) → is_some task.holder ≡ false

abbrev pub left_in : SessionView → ℕ
left_in s = s.job.budget.verdicts - posts s

abbrev pub left : List SessionView → ℕ
left board = sum_by left_in board
