-- What is kept of the lines so far.
use Rattle.std.proofs.Common.{◌≡◌, take}
use Rattle.dd_trim.specs.Marked.{kept_of, number_at}
use Rattle.dd_trim.proofs.copies.keep.Given as goal

abbrev pub invariant-loop-k : goal.invariant-loop-k
invariant-loop-k l = l.kept.items ≡ kept_of (take l.k l.marks) (number_at l.places) (take l.k l.lines)
