-- So far the two lists are the same, and they are equally long.
use Rattle.std.proofs.Common.{◌≡◌, take, length}
use Rattle.dd_concept.proofs.equal.same_axioms.Given as goal

abbrev pub invariant-loop-k : goal.invariant-loop-k
invariant-loop-k l = (length l.a ≡ length l.b) × (take l.k l.a ≡ take l.k l.b)
