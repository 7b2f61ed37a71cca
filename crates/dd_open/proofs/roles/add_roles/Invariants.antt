use Rattle.std.proofs.Common.{length, ◌-◌, ◌≡◌}
use Rattle.dd_graph.specs.View.{view_of}
use Rattle.dd_open.specs.Builds.{Meets}
use Rattle.dd_open.proofs.roles.add_roles.Given as goal

abbrev pub invariant-loop-i : goal.invariant-loop-i
invariant-loop-i l = (l.elements.marked.bound ≡ l.fn.elements.marked.bound)
    × Meets (view_of l.g) l._goal l.x l.pairs l.i l.fn.elements.marked.list l.elements.marked.list l.fn.roles.items l.roles.items

-- proposed from the loop's first test
abbrev pub decreases-loop-i : goal.decreases-loop-i
decreases-loop-i l = length l.pairs - l.i
