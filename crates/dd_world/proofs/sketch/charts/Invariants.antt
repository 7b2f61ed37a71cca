use Rattle.dd_world.specs.Sketches.{AreCharts}
use Rattle.dd_world.proofs.sketch.charts.Given as goal

abbrev pub invariant-loop-peer : goal.invariant-loop-peer
invariant-loop-peer l = AreCharts l.w l.elements l.charts l.peer
