use Rattle.std.proofs.Common.{◌≤◌, length}
use Rattle.dd_graph.specs.View.{view_of}
use Rattle.dd_set.specs.Words.{has}
use Rattle.dd_close.specs.Drafts.{Adds, IsLine}
use Rattle.dd_close.specs.Logs.{set_at}
use Rattle.dd_close.proofs.forced.fall.Given as goal

abbrev pub invariant-loop-at : goal.invariant-loop-at
invariant-loop-at l = (l.at ≤ length l.log) × Adds (view_of l.g) l.initial.book l.book × IsLine l.book (set_at l.log (has l._top.words) l.at) l.found

abbrev pub decreases-loop-at : goal.decreases-loop-at
decreases-loop-at l = l.at
