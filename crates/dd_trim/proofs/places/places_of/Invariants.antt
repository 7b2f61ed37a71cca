-- The numbers of the lines so far, and of the next one.
use Rattle.dd_trim.proofs.Kept.{PlacesTo}
use Rattle.dd_trim.proofs.places.places_of.Given as goal

abbrev pub invariant-loop-mark : goal.invariant-loop-mark
invariant-loop-mark l = PlacesTo l.marks l.mark-index l.places.items l.next
