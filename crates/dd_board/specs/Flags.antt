-- What is told by the flags of tasks while they are made anew. Private clauses alone cite this.
use Rattle.std.specs.Prelude.{ℕ, ◌≡◌, ◌<◌, ◌≤◌, Bool, true, false, not, IsTrue, List, [], Some, map, length, count_by, slice_get}
use Rattle.std.specs.Option.{option_map_or}
use Rattle.dd_board.specs.declared.event.TaskState.{TaskState}
use Rattle.dd_board.specs.declared.event.TaskState.TheVariants as state
use Rattle.dd_board.specs.declared.session.Slot.{Slot}
use Rattle.dd_board.specs.declared.session.Session.{Session}
use Rattle.dd_board.specs.View.{SessionView, props_for}
use Rattle.dd_board.specs.Wanted.{IsWanted, is_open_due}
use Rattle.dd_board.specs.Sessions.{task_of, session_view, HasFlags}

abbrev pub with_due : Bool → Slot → Slot
with_due b slot = record slot { is_due = b }

abbrev pub with_want : Bool → Slot → Slot
with_want b slot = record slot { is_wanted = b }

-- the tasks whose keys an open task's model raised
abbrev pub raised_of : TaskState → List ℕ
raised_of state.Unknown = []
raised_of (state.Open event raised seen) = raised
raised_of (state.Proved line) = []

abbrev pub raised_at : List Slot → ℕ → List ℕ
raised_at tasks k = option_map_or (λ (x : Slot). raised_of x.state) (slice_get tasks k) []

abbrev pub is_marked : List Slot → ℕ → Bool
is_marked tasks k = option_map_or (λ (x : Slot). x.is_wanted) (slice_get tasks k) false

abbrev pub is_unmarked : Slot → Bool
is_unmarked slot = not slot.is_wanted

-- each marked task is wanted
abbrev pub AreWanted : SessionView → List Slot → Type 0
AreWanted v tasks = (t : ℕ) → IsTrue (is_marked tasks t) → IsWanted v t

-- more tasks are marked, each of which is wanted if those before were; nothing else is changed
pub record IsSpread (old new : List Slot) : Type 0 where
  pub same : map task_of new ≡ map task_of old
  pub more : (t : ℕ) → IsTrue (is_marked old t) → IsTrue (is_marked new t)
  pub sound : (v : SessionView) → v.tasks ≡ map task_of old → AreWanted v old → AreWanted v new
  pub fewer : count_by is_unmarked new ≤ count_by is_unmarked old

-- where something was marked there are less to be marked, and else nothing was changed
abbrev pub Changes : Bool → List Slot → List Slot → Type 0
Changes true old new = count_by is_unmarked new < count_by is_unmarked old
Changes false old new = new ≡ old

-- the first n of what task k raised are marked, as far as they are there
abbrev pub AreReached : List Slot → ℕ → ℕ → Type 0
AreReached tasks k n = (j u : ℕ) → j < n → slice_get (raised_at tasks k) j ≡ Some u → u < length tasks → IsTrue (is_marked tasks u)

-- what the first n tasks raised is marked, of those that are marked
abbrev pub AreClosed : List Slot → ℕ → Type 0
AreClosed tasks n = (k : ℕ) → k < n → IsTrue (is_marked tasks k) → AreReached tasks k (length (raised_at tasks k))

-- where nothing was changed, they are
abbrev pub Closes : Bool → List Slot → ℕ → Type 0
Closes true tasks n = Unit {0}
Closes false tasks n = AreClosed tasks n

abbrev pub Reaches : Bool → List Slot → ℕ → ℕ → Type 0
Reaches true tasks k n = Unit {0}
Reaches false tasks k n = AreReached tasks k n

-- of the session the flags of its tasks that say what is due may be changed, and they are right
pub record IsRenewed (old new : Session) : Type 0 where
  pub rest : new ≡ record old { tasks = new.tasks }
  pub same : map task_of new.tasks ≡ map task_of old.tasks
  pub wants : (t : ℕ) → is_marked new.tasks t ≡ is_marked old.tasks t
  pub due : (t : ℕ) (slot : Slot) → slice_get new.tasks t ≡ Some slot → slot.is_due ≡ is_open_due (session_view old) (props_for (session_view old) (task_of slot)) slot.state

-- nothing but flags was changed, and all flags are right
pub record IsAnew (old new : Session) : Type 0 where
  pub rest : new ≡ record old { tasks = new.tasks }
  pub same : map task_of new.tasks ≡ map task_of old.tasks
  pub flags : (t : ℕ) (slot : Slot) → slice_get new.tasks t ≡ Some slot → HasFlags (session_view old) t slot
