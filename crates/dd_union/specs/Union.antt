-- The world that is put together from the models of a session's wanted open tasks.
use Rattle.std.specs.Prelude.{◌≡◌, ℕ, true, ◌+◌, ◌<◌, length, List, Contains, ◌↔◌, All, Some, slice_get}
use Rattle.dd_concept.specs.declared.concept.Concept.{Concept}
use Rattle.dd_interp.specs.declared.interp.Interp.{Interp}
use Rattle.dd_interp.specs.Meaning.{meaning}
use Rattle.dd_interp.specs.Satisfies.{IsShaped}
use Rattle.dd_world.specs.declared.world.World.{World}
use Rattle.dd_task.specs.declared.job.Key.{Key}
use Rattle.dd_task.specs.Goals.{peer_of}
use Rattle.dd_task.specs.Keys.{is_among}
use Rattle.dd_task.specs.Demands.{IsRaised}
use Rattle.dd_board.specs.declared.event.Event.TheVariants.{Opened}
use Rattle.dd_board.specs.declared.event.TaskState.TheVariants.{Open}
use Rattle.dd_board.specs.View.{Task, SessionView}
use Rattle.dd_board.specs.Wanted.{IsWanted}

-- task t is wanted and open, its goal is at peer i, and it was opened with the element x of the model m
pub record IsPart (v : SessionView) (t i : ℕ) (m : Interp) (x : ℕ) : Type 0 where
  pub wanted : IsWanted v t
  pub task : Task
  pub at : slice_get v.tasks t ≡ Some task
  pub peer : peer_of v.job task.key ≡ i
  pub event : ℕ
  pub raised : List ℕ
  pub seen : ℕ
  pub is_open : task.state ≡ Open event raised seen
  pub posted : ℕ
  pub number : ℕ
  pub opened : slice_get v.journal event ≡ Some (Opened posted number m x)

-- The element y of the model of task t raises a key, whose task u, among those that t raised, is a part too: the link leads from
-- the element that u was opened with to y, where start t is the first element of t's model.
pub record IsJoint (v : SessionView) (start : ℕ → ℕ) (link : ℕ × ℕ × ℕ × ℕ) : Type 0 where
  pub t : ℕ
  pub m : Interp
  pub x : ℕ
  pub part : IsPart v t link.1 m x
  pub y : ℕ
  pub element : y < m.size
  pub onto : ℕ
  pub key : Key
  pub raised : IsRaised v.job.pinned link.1 m y link.0 onto key
  pub u : ℕ
  pub among : is_among part.raised u ≡ true
  pub n : Interp
  pub z : ℕ
  pub other : IsPart v u link.0 n z
  pub asked : other.task.key ≡ key
  pub from : link.2 ≡ start u + z
  pub to : link.3 ≡ start t + y

-- each part's elements stand in the world of its peer, from its start on, and keep what they have; there are no other
-- elements; and the links are the joints
pub record IsUnionOf (v : SessionView) (start : ℕ → ℕ) (w : World) : Type 0 where
  pub one_each : length w.locals ≡ length v.job.pinned.peers
  pub shaped : All IsShaped w.locals
  pub stands : (t i : ℕ) (m : Interp) (x : ℕ) (local : Interp) → IsPart v t i m x → slice_get w.locals i ≡ Some local
      → (y : ℕ) → y < m.size → (start t + y < local.size) × ((c : Concept) → meaning local c (start t + y) ≡ meaning m c y)
  pub covers : (i : ℕ) (local : Interp) (b : ℕ) → slice_get w.locals i ≡ Some local → b < local.size
      → (t : ℕ) × (m : Interp) × (x : ℕ) × (y : ℕ) × IsPart v t i m x × (y < m.size) × (b ≡ start t + y)
  pub links : (link : ℕ × ℕ × ℕ × ℕ) → Contains w.links link ↔ IsJoint v start link
