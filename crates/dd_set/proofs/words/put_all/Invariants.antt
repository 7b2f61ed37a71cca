use Rattle.dd_set.proofs.Joining.{IsJoinedBelow}
use Rattle.dd_set.proofs.words.put_all.Given as goal

abbrev pub invariant-loop-i : goal.invariant-loop-i
invariant-loop-i l = IsJoinedBelow l.initial.a l.b l.a l.i
