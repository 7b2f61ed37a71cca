-- The numbers are those of the cited lines so far.
use Rattle.std.proofs.Common.{◌≡◌, map, take}
use Rattle.dd_trim.specs.Marked.{number_at}
use Rattle.dd_trim.proofs.copies.places_each.Given as goal

abbrev pub invariant-loop-cite : goal.invariant-loop-cite
invariant-loop-cite l = l.numbers ≡ map (number_at l.places) (take l.cite-index l.cites)
