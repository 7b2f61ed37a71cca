use Rattle.std.proofs.Common.{◌∙◌}
use Rattle.dd_set.specs.Words.{has}
use Rattle.dd_rules.proofs.Passing.{passed-next, passed-end}
use Rattle.dd_rules.proofs.successor.pass_all.Goals as goal

pub loop-n-preserved : goal.loop-n-preserved
loop-n-preserved c = record {
  width = c.pass.ensures.width ∙ c.loop-n.invariant.width;
  passed = passed-next c.args.shapes.now c.args.label.now.words c.args.role (has c.args.next.now.words) (has c.loop-n.next.words) (has c.pass.new.next.words) c.loop-n.from c.in-Some.n
      c.shape_at.result c.shape_at.ensures c.pass.ensures.passed c.in-Some.ensures.next c.loop-n.invariant.passed;
}

pub returns-clause-passed : goal.returns-clause-passed
returns-clause-passed c = passed-end c.args.shapes.now c.args.label.now.words c.args.role (has c.args.next.now.words) (has c.loop-n.next.words) c.loop-n.from
    c.in_default.ensures.next c.loop-n.invariant.passed
