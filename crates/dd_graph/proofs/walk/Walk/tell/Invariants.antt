use Rattle.dd_graph.specs.Goes.{Goes}
use Rattle.dd_graph.proofs.walk.Walk.tell.Given as goal

abbrev pub invariant-loop : goal.invariant-loop
invariant-loop l = Goes l.fn.kernel l.kernel
