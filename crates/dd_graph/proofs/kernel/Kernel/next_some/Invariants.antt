use Rattle.std.proofs.Common.{◌≡◌, ◌≤◌, ◌<◌, ◌-◌, ℕ, false}
use Rattle.dd_set.specs.Words.{has}
use Rattle.dd_graph.specs.Right.{is_some_in}
use Rattle.dd_graph.specs.View.{kernel_view, rules_at}
use Rattle.dd_graph.proofs.kernel.Kernel.next_some.Given as goal

abbrev pub invariant-loop-n : goal.invariant-loop-n
invariant-loop-n l = (l.fn.from ≤ l.at) × ((k : ℕ) → l.fn.from ≤ k → k < l.at → is_some_in (rules_at (kernel_view l.self)) (has l.label.words) k ≡ false)

abbrev pub decreases-loop-n : goal.decreases-loop-n
decreases-loop-n l = l.self.table.width - l.at
