-- What a posted verdict does to the session's task. Private clauses alone cite this.
use Rattle.std.specs.Prelude.{ℕ, ◌≡◌, ◌+◌, ◌++◌, ◌∷◌, not, Bool, true, false, List, [], None, Some, map, length, count_by, slice_get, vec_capacity}
use Rattle.std.specs.List.{filter, list_any, position_or_len}
use Rattle.dd_interp.specs.declared.interp.Interp.{Interp}
use Rattle.dd_task.specs.Demands.{raised_by}
use Rattle.dd_task.specs.declared.job.Key.{Key}
use Rattle.dd_task.specs.Keys.{is_same_key}
use Rattle.dd_board.specs.declared.event.Event.{Event}
use Rattle.dd_board.specs.declared.event.TaskState.{TaskState}
use Rattle.dd_board.specs.declared.event.TaskState.TheVariants as state
use Rattle.dd_board.specs.declared.session.Slot.{Slot}
use Rattle.dd_board.specs.declared.session.Session.{Session}
use Rattle.dd_board.specs.View.{Task, change_at}
use Rattle.dd_board.specs.Sessions.{task_of, session_view, is_held, HasFlags}

-- the task in this state, and not held
abbrev pub stated : TaskState → Task → Task
stated st task = record task { holder = None; state = st }

abbrev pub with_state : TaskState → Slot → Slot
with_state st slot = record slot { holder = None; state = st }

-- the task has the state and is not held, the event is journalled, and all flags are right
pub record IsPosted (old new : Session) (t : ℕ) (st : TaskState) (e : Event) : Type 0 where
  pub view : session_view new ≡ record (session_view old) { tasks = change_at (stated st) (map task_of old.tasks) t; journal = old.journal.items ++ e ∷ [] }
  pub flags : (u : ℕ) (slot : Slot) → slice_get new.tasks u ≡ Some slot → HasFlags (session_view new) u slot
  pub held : new.held + 1 ≡ old.held
  pub count : count_by is_held new.tasks + 1 ≡ count_by is_held old.tasks
  pub posts_more : new.posts ≡ old.posts + 1
  pub spent : new.has_spent ≡ old.has_spent
  pub capacity : vec_capacity new.journal ≡ vec_capacity old.journal
  pub tasks_same : length new.tasks ≡ length old.tasks

-- ---- tasks for keys

abbrev pub new_slot : Key → Slot
new_slot key = record { key = key; holder = None; state = state.Unknown; is_due = true; is_wanted = false }

abbrev pub has_slot : List Slot → Key → Bool
has_slot slots key = list_any (λ (x : Slot). is_same_key x.key key) slots

-- the tasks with new ones for the keys that have none
abbrev pub with_slots : List Slot → List Key → List Slot
with_slots slots keys = slots ++ map new_slot (filter (λ key. not (has_slot slots key)) keys)

-- the number of the first task with the key
abbrev pub place_in : List Slot → Key → ℕ
place_in slots key = position_or_len (λ (x : Slot). is_same_key x.key key) slots

-- the numbers of the tasks of the keys that the model raises, once each key has a task
abbrev pub numbers_in : Session → ℕ → Interp → List ℕ
numbers_in s i m = map (place_in (with_slots s.tasks (raised_by s.job.pinned i m))) (raised_by s.job.pinned i m)
