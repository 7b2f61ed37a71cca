use Rattle.std.proofs.Common.{◌≡◌, ◌≤◌, ◌-◌, ◌&&◌, nat_lt, ℕ}
use Rattle.dd_graph.specs.View.{rules_at, view_of}
use Rattle.dd_set.specs.Words.{has}
use Rattle.dd_close.specs.Nodes.{wants}
use Rattle.dd_close.proofs.node.passing.Given as goal

abbrev pub invariant-loop-n : goal.invariant-loop-n
invariant-loop-n l = (l.passing.width ≡ l.set.width) × (l.from ≤ l.set.width)
    × ((k : ℕ) → has l.passing.words k ≡ (nat_lt k l.from && (has l.set.words k && wants (rules_at (view_of l.g)) l.role l.part l.label.words k)))

abbrev pub decreases-loop-n : goal.decreases-loop-n
decreases-loop-n l = l.set.width - l.from
