use Rattle.std.proofs.Common.{◌≡◌, ◌≤◌, ◌-◌, length}
use Rattle.dd_graph.specs.Trail.{IsTrail}
use Rattle.dd_graph.proofs.kernel.Kernel.first_left.Given as goal

abbrev pub invariant-loop-id : goal.invariant-loop-id
invariant-loop-id l = record {
  bound : l.list.bound ≡ length l.self.table.list;
  place : l.at ≤ l.list.bound;
  trail : IsTrail l.self l.at l.list.list;
}

abbrev pub decreases-loop-id : goal.decreases-loop-id
decreases-loop-id l = l.list.bound - l.at
