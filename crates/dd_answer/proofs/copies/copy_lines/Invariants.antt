-- The copies are those of the items so far.
use Rattle.std.proofs.Common.{◌≡◌, take}
use Rattle.dd_answer.proofs.copies.copy_lines.Given as goal

abbrev pub invariant-loop-line : goal.invariant-loop-line
invariant-loop-line l = l.copies ≡ take l.line-index l.lines
