use Rattle.dd_interp.proofs.Filling.{HasBelow}
use Rattle.dd_interp.proofs.fill.full.Given as goal

abbrev pub invariant-loop-k : goal.invariant-loop-k
invariant-loop-k l = HasBelow l.size l.row l.k
