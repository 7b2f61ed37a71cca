use Rattle.std.proofs.Common.{◌≤◌, ◌+◌, ◌-◌}
use Rattle.dd_graph.specs.View.{view_of}
use Rattle.dd_close.specs.Writes.{AreWritten}
use Rattle.dd_close.proofs.write.write_lines.Given as goal

abbrev pub invariant-loop-k : goal.invariant-loop-k
invariant-loop-k l = (l.k ≤ l.last + 1) × AreWritten l.p l.peer l.view (view_of l.g) l.book.table.list l.k l.lines.items

abbrev pub decreases-loop-k : goal.decreases-loop-k
decreases-loop-k l = l.last + 1 - l.k
