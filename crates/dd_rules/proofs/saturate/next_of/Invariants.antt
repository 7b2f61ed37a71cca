use Rattle.dd_set.proofs.Comparing.{IsWithinBelow}
use Rattle.dd_rules.proofs.saturate.next_of.Given as goal

abbrev pub invariant-loop-i : goal.invariant-loop-i
invariant-loop-i l = IsWithinBelow l.words l.handled l.i
