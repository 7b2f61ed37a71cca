use Rattle.dd_interp.proofs.RisingLists.{AreDistinctOf}
use Rattle.dd_interp.proofs.places.distinct.Given as goal

abbrev pub invariant-loop-x : goal.invariant-loop-x
invariant-loop-x l = AreDistinctOf l.sorted l.once.items l.x-index
