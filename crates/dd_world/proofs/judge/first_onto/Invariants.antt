use Rattle.dd_world.specs.Sketches.{world_of}
use Rattle.dd_world.specs.Tests.{satisfies_onto}
use Rattle.dd_world.proofs.Judging.{Passed}
use Rattle.dd_world.proofs.judge.first_onto.Given as goal

abbrev pub invariant-loop-k : goal.invariant-loop-k
invariant-loop-k l = Passed (satisfies_onto (world_of l.s) l.peer) l.rules l.k
