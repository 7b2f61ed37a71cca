use Rattle.std.proofs.Common.{◌+◌, ◌-◌, ◌*◌, length}
use Rattle.dd_set.proofs.Looking.{IsSkipped}
use Rattle.dd_set.proofs.words.next_number.Given as goal

abbrev pub invariant-loop-place : goal.invariant-loop-place
invariant-loop-place l = IsSkipped l.words l.n l.place

abbrev pub decreases-loop-place : goal.decreases-loop-place
decreases-loop-place l = length l.words * 64 + 64 - l.place
