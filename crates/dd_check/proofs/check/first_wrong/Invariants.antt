-- The lines so far are right.
use Rattle.std.proofs.Common.{◌≡◌, ◌<◌, ℕ, true}
use Rattle.dd_check.specs.Faults.{is_right_at}
use Rattle.dd_check.proofs.check.first_wrong.Given as goal

abbrev pub invariant-loop-k : goal.invariant-loop-k
invariant-loop-k l = (k : ℕ) → k < l.k → is_right_at l.p l.lines k ≡ true
