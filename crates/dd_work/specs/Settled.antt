-- What settling does to a board.
use Rattle.std.specs.Prelude.{◌≡◌, ℕ, false, List, ◌++◌, length, Some, is_some, slice_get}
use Rattle.dd_board.specs.declared.event.Event.{Event}
use Rattle.dd_board.specs.Standing.{IsGoing}
use Rattle.dd_board.specs.View.{Task, SessionView}

-- the session is later the same, with more events
pub record Extends (old new : SessionView) : Type 0 where
  pub job : new.job ≡ old.job
  pub start : new.start ≡ old.start
  pub more : List Event
  pub journal : new.journal ≡ old.journal ++ more

-- there are the same sessions, each with more events
pub record ExtendEach (old new : List SessionView) : Type 0 where
  pub count : length new ≡ length old
  pub each : (n : ℕ) (s : SessionView) → slice_get new n ≡ Some s → (r : SessionView) × (slice_get old n ≡ Some r) × Extends r s

-- no task of a session that is going is held
abbrev pub HasNothingHeld : List SessionView → Type 0
HasNothingHeld board = (n : ℕ) (s : SessionView) → slice_get board n ≡ Some s → IsGoing s
    → (t : ℕ) (task : Task) → slice_get s.tasks t ≡ Some task → is_some task.holder ≡ false
