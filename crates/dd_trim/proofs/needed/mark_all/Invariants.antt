-- The lines from here on were looked at.
use Rattle.std.proofs.Common.{◌≤◌, length}
use Rattle.dd_trim.specs.Marked.{AreMarked}
use Rattle.dd_trim.proofs.needed.mark_all.Given as goal

abbrev pub invariant-loop-k : goal.invariant-loop-k
invariant-loop-k l = (l.k ≤ length l.lines) × AreMarked l.lines l.k l.marks

abbrev pub decreases-loop-k : goal.decreases-loop-k
decreases-loop-k l = l.k
