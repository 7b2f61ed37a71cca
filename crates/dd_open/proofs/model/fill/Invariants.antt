use Rattle.std.proofs.Common.{◌≡◌, ◌≤◌, ◌-◌, length}
use Rattle.dd_graph.specs.View.{view_of}
use Rattle.dd_open.specs.Builds.{Builds, GoesOn}
use Rattle.dd_open.proofs.model.fill.Given as goal

abbrev pub invariant-loop-x : goal.invariant-loop-x
invariant-loop-x l = (l.elements.marked.bound ≡ l.fn.elements.marked.bound)
    × (l.x ≤ length l.elements.marked.list)
    × GoesOn l.fn.elements.marked.list l.elements.marked.list
    × Builds (view_of l.g) l._goal l.elements.marked.list l.names.items l.roles.items l.x

abbrev pub decreases-loop-x : goal.decreases-loop-x
decreases-loop-x l = l.fn.elements.marked.bound - l.x
