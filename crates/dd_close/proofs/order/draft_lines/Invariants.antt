use Rattle.std.proofs.Common.{◌≡◌, length}
use Rattle.dd_graph.specs.View.{view_of}
use Rattle.dd_close.specs.Orders.{Drafts}
use Rattle.dd_close.proofs.order.draft_lines.Given as goal

abbrev pub invariant-loop-rank : goal.invariant-loop-rank
invariant-loop-rank l = (length l.lines.items ≡ length (view_of l.g).labels) × Drafts (view_of l.g) l.book l.lines.items l.rank
