-- A session as contracts see it.
use Rattle.std.specs.Prelude.{ℕ, zero, suc, List, [], ◌∷◌, Option, unwrap_or, slice_get}
use Rattle.dd_task.specs.declared.job.Job.{Job}
use Rattle.dd_task.specs.declared.job.Key.{Key}
use Rattle.dd_task.specs.declared.line.Line.{Line}
use Rattle.dd_task.specs.declared.line.Prop.{Prop}
use Rattle.dd_task.specs.Goals.{peer_of}
use Rattle.dd_board.specs.declared.event.Event.{Event}
use Rattle.dd_board.specs.declared.event.TaskState.{TaskState}

-- who holds a task: the number that the take drew, and how many propagations into the goal's peer there were then
pub record Holder : Type 0 where
  pub number : ℕ
  pub seen : ℕ

-- a task: its key, who holds it, if anybody does, and what is known of it
pub record Task : Type 0 where
  pub key : Key
  pub holder : Option Holder
  pub state : TaskState

-- what a session begins with: lines, and propagations by the peer that they lead into
pub record Start : Type 0 where
  pub lines : List Line
  pub props : List (List Prop)

-- a session: what is asked, what it began with, its tasks, lines and propagations, each in the order in which they came, its
-- journal, and the number that the next take draws
pub record SessionView : Type 0 where
  pub job : Job
  pub start : Start
  pub tasks : List Task
  pub lines : List Line
  pub props : List (List Prop)
  pub journal : List Event
  pub next : ℕ

-- the propagations into peer i
abbrev pub into_peer : List (List Prop) → ℕ → List Prop
into_peer props i = unwrap_or (slice_get props i) []

-- those into the peer whose elements the task asks about
abbrev pub props_for : SessionView → Task → List Prop
props_for v task = into_peer v.props (peer_of v.job task.key)

-- the list with f of the item at place n in its place
abbrev pub change_at : {A : Type 0} → (A → A) → List A → ℕ → List A
change_at f [] n = []
change_at f (x ∷ xs) zero = f x ∷ xs
change_at f (x ∷ xs) (suc n) = x ∷ change_at f xs n
