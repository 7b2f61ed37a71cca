use Rattle.dd_set.proofs.Comparing.{IsWithinBelow}
use Rattle.dd_set.proofs.words.are_within.Given as goal

abbrev pub invariant-loop-i : goal.invariant-loop-i
invariant-loop-i l = IsWithinBelow l.a l.b l.i
