-- The lines cited so far are marked.
use Rattle.std.proofs.Common.{take}
use Rattle.dd_trim.specs.Marked.{Marks}
use Rattle.dd_trim.proofs.needed.mark_each.Given as goal

abbrev pub invariant-loop-cite : goal.invariant-loop-cite
invariant-loop-cite l = Marks l.k (take l.cite-index l.cites) l.initial.marks l.marks
