-- A session as it is kept: what contracts see of it, and what holds of what is kept beside. Private clauses alone cite the latter.
use Rattle.std.specs.Prelude.{ℕ, ◌≡◌, ◌+◌, ◌^◌, ◌<◌, ◌≤◌, ◌↔◌, ◌&&◌, Bool, not, Option, IsTrue, List, map, length, count_by, Some, is_some, slice_get, vec_capacity}
use Rattle.std.specs.Option.{option_map}
use Rattle.dd_board.specs.declared.session.Holding.{Holding}
use Rattle.dd_board.specs.declared.session.Slot.{Slot}
use Rattle.dd_board.specs.declared.session.Session.{Session}
use Rattle.dd_board.specs.View.{Holder, Task, SessionView, props_for}
use Rattle.dd_board.specs.Wanted.{IsWanted, is_open_due}
use Rattle.dd_board.specs.Standing.{posts, has_spent}
use Rattle.dd_board.specs.Legal.{IsLegal, empty_start}

abbrev pub holder_of : Holding → Holder
holder_of h = record { number = h.number; seen = h.seen }

abbrev pub task_of : Slot → Task
task_of slot = record { key = slot.key; holder = option_map holder_of slot.holder; state = slot.state }

-- a session of this kind began with nothing
abbrev pub session_view : Session → SessionView
session_view s = record {
  job = s.job;
  start = empty_start s.job.pinned;
  tasks = map task_of s.tasks;
  lines = s.lines;
  props = s.props;
  journal = s.journal.items;
  next = s.next;
}

abbrev pub is_held : Slot → Bool
is_held slot = is_some slot.holder

-- may the task be taken, by its flags, and is it awaited while it is held
abbrev pub may_be_taken : Slot → Bool
may_be_taken slot = slot.is_wanted && (not (is_held slot) && slot.is_due)

abbrev pub is_awaited : Slot → Bool
is_awaited slot = slot.is_wanted && is_held slot

-- the task with another holder, or with none
abbrev pub with_holder : Option Holding → Slot → Slot
with_holder h slot = record slot { holder = h }

-- the flags of a task: is it unknown or stale, and is it wanted
pub record HasFlags (v : SessionView) (t : ℕ) (slot : Slot) : Type 0 where
  pub due : slot.is_due ≡ is_open_due v (props_for v (task_of slot)) slot.state
  pub wanted : IsTrue slot.is_wanted ↔ IsWanted v t

-- the session came about by allowed events, and what is kept beside says how it stands; there is room for the event that ends
-- each ticket that is out
pub record IsKept (s : Session) : Type 0 where
  pub legal : IsLegal (session_view s)
  pub flags : (t : ℕ) (slot : Slot) → slice_get s.tasks t ≡ Some slot → HasFlags (session_view s) t slot
  pub held : s.held ≡ count_by is_held s.tasks
  pub posts_counted : s.posts ≡ posts (session_view s)
  pub spent : s.has_spent ≡ has_spent (session_view s)
  pub room : length s.journal.items + s.held ≤ vec_capacity s.journal
  pub numbered : length s.journal.items + s.held < 2 ^ 32
  pub few_tasks : length s.tasks < 2 ^ 32
  pub few_lines : length s.lines < 2 ^ 32

abbrev pub AreKept : List Session → Type 0
AreKept sessions = (n : ℕ) (s : Session) → slice_get sessions n ≡ Some s → IsKept s
