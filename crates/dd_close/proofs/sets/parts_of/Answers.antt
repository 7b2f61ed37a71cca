use Rattle.std.proofs.Common.{◌∙◌}
use Rattle.dd_set.specs.Words.{has}
use Rattle.dd_close.proofs.Within.{parts-more}
use Rattle.dd_close.proofs.sets.parts_of.Goals as goal

pub loop-line-preserved : goal.loop-line-preserved
loop-line-preserved c = (
  c.in_ok-add_part.ensures.width ∙ c.loop-line.invariant.0,
  parts-more c.args.book.now.table.list c.args.lines.now c.loop-line.line-index 0 (has c.args.set.now.words) (has c.loop-line.parts.words) (has c.add_part.new.parts.words)
      c.requires.there c.loop-line-test.true c.loop-line.invariant.1 c.in_ok-add_part.ensures.adds,
)
