use Rattle.dd_graph.specs.Goes.{Goes, work}
use Rattle.dd_graph.proofs.kernel.Kernel.search.Given as goal

abbrev pub invariant-loop-alloc : goal.invariant-loop-alloc
invariant-loop-alloc l = Goes l.fn.self l.self

abbrev pub decreases-loop-alloc : goal.decreases-loop-alloc
decreases-loop-alloc l = work l.self
