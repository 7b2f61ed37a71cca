use Rattle.dd_world.specs.Sketches.{AreAllSeen}
use Rattle.dd_world.proofs.sketch.all_elements.Given as goal

abbrev pub invariant-loop-peer : goal.invariant-loop-peer
invariant-loop-peer l = AreAllSeen l.w l.elements l.peer
