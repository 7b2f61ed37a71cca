use Rattle.std.proofs.Common.{◌≡◌, take}
use Rattle.dd_set.specs.Words.{has}
use Rattle.dd_close.specs.Parts.{ArePartsOf}
use Rattle.dd_close.proofs.sets.parts_of.Given as goal

abbrev pub invariant-loop-line : goal.invariant-loop-line
invariant-loop-line l = (l.parts.width ≡ l.set.width) × ArePartsOf l.book.table.list (take l.line-index l.lines) (has l.set.words) (has l.parts.words)
