use Rattle.std.proofs.Common.{◌≡◌, ◌+◌, length}
use Rattle.dd_graph.specs.View.{view_of}
use Rattle.dd_close.specs.Orders.{IsOrder}
use Rattle.dd_close.proofs.order.order_of.Given as goal

abbrev pub invariant-loop-id : goal.invariant-loop-id
invariant-loop-id l = (length l.order.items ≡ l.top + 1) × IsOrder (view_of l.g) l.order.items l.id
