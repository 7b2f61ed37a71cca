-- A quiet session has a countermodel.
use Rattle.std.specs.Prelude.{ℕ}
use Rattle.dd_world.specs.declared.world.World.{World}
use Rattle.dd_world.specs.World.{IsCounter}
use Rattle.dd_board.specs.declared.event.Outcome.TheVariants.{Quiet}
use Rattle.dd_board.specs.Fit.{IsPlaced}
use Rattle.dd_board.specs.View.{SessionView}
use Rattle.dd_board.specs.Standing.{IsOutcome}
use Rattle.dd_board.specs.Legal.{IsLegal}
use Rattle.dd_union.specs.Union.{IsUnionOf}

-- for every legal session that is quiet, whatever the order of takes and posts
abbrev pub QuietHasCountermodel : Type 0
QuietHasCountermodel = (v : SessionView) (start : ℕ → ℕ) (w : World) → IsLegal v → IsPlaced v.job → IsOutcome v Quiet
    → IsUnionOf v start w → IsCounter v.job.pinned v.job.query w
