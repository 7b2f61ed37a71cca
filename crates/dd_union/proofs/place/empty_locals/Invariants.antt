-- As many interpretations without elements as turns.
use Rattle.dd_union.specs.Pieces.{AreEmpty}
use Rattle.dd_union.proofs.place.empty_locals.Given as goal

abbrev pub invariant-loop-k : goal.invariant-loop-k
invariant-loop-k l = AreEmpty l.locals.items l.k
