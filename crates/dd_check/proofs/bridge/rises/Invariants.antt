-- The numbers rise where those from the last one on do that was read.
use Rattle.std.proofs.Common.{◌≡◌, ◌≤◌, ◌-◌, drop}
use Rattle.dd_task.specs.Lines.{is_rising}
use Rattle.dd_check.proofs.bridge.rises.Given as goal

abbrev pub invariant-loop-k : goal.invariant-loop-k
invariant-loop-k l = (1 ≤ l.k) × (is_rising l.numbers ≡ is_rising (drop (l.k - 1) l.numbers))
