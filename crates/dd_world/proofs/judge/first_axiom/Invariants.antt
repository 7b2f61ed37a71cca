use Rattle.dd_world.specs.Sketches.{world_of}
use Rattle.dd_world.specs.Tests.{satisfies_axiom}
use Rattle.dd_world.proofs.Judging.{Passed}
use Rattle.dd_world.proofs.judge.first_axiom.Given as goal

abbrev pub invariant-loop-k : goal.invariant-loop-k
invariant-loop-k l = Passed (satisfies_axiom (world_of l.s) l.peer) l.axioms l.k
