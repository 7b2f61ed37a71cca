-- How a session stands, with the task that is next. Private clauses alone cite this.
use Rattle.std.specs.Prelude.{ℕ, ◌≡◌, ◌<◌, ◌≤◌, ◌≢◌, Bool, true, false, List, Option, None, Some, slice_get, is_some}
use Rattle.dd_board.specs.declared.event.Outcome.TheVariants.{Going}
use Rattle.dd_board.specs.declared.standing.Stand.{Stand}
use Rattle.dd_board.specs.declared.standing.Stand.TheVariants as stand
use Rattle.dd_board.specs.declared.standing.Found.{Found}
use Rattle.dd_board.specs.declared.standing.Found.TheVariants as found
use Rattle.dd_board.specs.View.{Task, SessionView}
use Rattle.dd_board.specs.Wanted.{IsWanted, is_due}
use Rattle.dd_board.specs.Standing.{IsOutcome, IsGoing, IsQuiet}
use Rattle.dd_board.specs.Takes.{MayBeTaken, IsFirstOf, IsBusy, IsSettled}

-- the task is there, wanted and due
pub record IsNext (v : SessionView) (t : ℕ) : Type 0 where
  pub task : Task
  pub at : slice_get v.tasks t ≡ Some task
  pub wanted : IsWanted v t
  pub due : is_due v task ≡ true

-- it is there, wanted and held
pub record IsOut (v : SessionView) (t : ℕ) : Type 0 where
  pub task : Task
  pub at : slice_get v.tasks t ≡ Some task
  pub wanted : IsWanted v t
  pub held : is_some task.holder ≡ true

pub record IsFirstNext (v : SessionView) (t : ℕ) : Type 0 where
  pub next : IsNext v t
  pub first : (u : ℕ) → IsNext v u → t ≤ u

-- the session is over, or its next task is this one, or it waits for this one
abbrev pub IsStand : SessionView → Stand → Type 0
IsStand v (stand.Over o) = IsOutcome v o × (o ≢ Going)
IsStand v (stand.Due t) = IsGoing v × IsFirstNext v t
IsStand v (stand.Waits t) = IsGoing v × ((u : ℕ) → IsNext v u → ⊥) × IsOut v t

-- the session's next task, or one that it waits for, or that nothing that is wanted is due or held
abbrev pub Stirs : SessionView → Option Stand → Type 0
Stirs v None = IsQuiet v
Stirs v (Some (stand.Over o)) = ⊥
Stirs v (Some (stand.Due t)) = IsFirstNext v t
Stirs v (Some (stand.Waits t)) = ((u : ℕ) → IsNext v u → ⊥) × IsOut v t

-- the first of all tasks that may be taken, or that none may be
abbrev pub IsFound : List SessionView → Found → Type 0
IsFound board (found.Due n t) = MayBeTaken board n t × IsFirstOf board n t
IsFound board found.Busy = IsBusy board
IsFound board found.Settled = IsSettled board

-- one of the first sessions is going, and waits for a task
pub record IsBusyBelow (board : List SessionView) (n : ℕ) : Type 0 where
  pub number : ℕ
  pub low : number < n
  pub session : SessionView
  pub at : slice_get board number ≡ Some session
  pub going : IsGoing session
  pub task : ℕ
  pub out : IsOut session task

-- the first sessions have none that may be taken; where it is said so, one of them waits, and else none of them is going
pub record IsSearched (board : List SessionView) (n : ℕ) (busy : Bool) : Type 0 where
  pub none : (m u : ℕ) → m < n → MayBeTaken board m u → ⊥
  pub waits : busy ≡ true → IsBusyBelow board n
  pub over : busy ≡ false → (m : ℕ) (s : SessionView) → m < n → slice_get board m ≡ Some s → ¬ (IsGoing s)
