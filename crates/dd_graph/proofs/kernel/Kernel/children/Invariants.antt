use Rattle.std.proofs.Common.{length, ◌-◌}
use Rattle.dd_rules.specs.Numbers.{additions}
use Rattle.dd_set.specs.Words.{has}
use Rattle.dd_graph.specs.View.{kernel_view, rules_at}
use Rattle.dd_graph.proofs.Leading.{SplitsSoFar}
use Rattle.dd_graph.proofs.kernel.Kernel.children.Given as goal

abbrev pub invariant-loop-c : goal.invariant-loop-c
invariant-loop-c l = SplitsSoFar l.fn.self l.self (has l.label.words) l.step l.k l.list.items

abbrev pub decreases-loop-c : goal.decreases-loop-c
decreases-loop-c l = length (additions (rules_at (kernel_view l.self)) l.step) - l.k
