-- What a quiet session shows.
use Rattle.std.specs.Prelude.{◌≡◌, ℕ, Some, slice_get}
use Rattle.dd_interp.specs.declared.interp.Interp.{Interp}
use Rattle.dd_world.specs.declared.world.World.{World}
use Rattle.dd_world.specs.World.{IsCounter}
use Rattle.dd_task.specs.Goals.{peer_of}
use Rattle.dd_board.specs.View.{Task, SessionView}
use Rattle.dd_board.specs.Wanted.{IsWanted}
use Rattle.dd_union.specs.Inside.{IsWrittenInClosure}

-- a countermodel in which peers without a wanted task have no elements, and the names and roles of each peer are in its closure
pub record ShowsNo (v : SessionView) (w : World) : Type 0 where
  pub counter : IsCounter v.job.pinned v.job.query w
  pub empty : (i : ℕ) (local : Interp) → slice_get w.locals i ≡ Some local
      → ((t : ℕ) (task : Task) → IsWanted v t → slice_get v.tasks t ≡ Some task → peer_of v.job task.key ≡ i → ⊥) → local.size ≡ 0
  pub written : (i : ℕ) (local : Interp) → slice_get w.locals i ≡ Some local → IsWrittenInClosure v.job i local
