use Rattle.std.proofs.Common.{refl, arith}
use Rattle.dd_cert.specs.Derivations.{pieces_of, pieces_of_line}
use Rattle.dd_cert.proofs.Stopping.{passing-ends, passing-next, passing-stops}
use Rattle.dd_cert.proofs.line_texts.pass_lines.Goals as goal

pub loop-line-preserved : goal.loop-line-preserved
loop-line-preserved c = record {
  small = omega (arith, c.in-Ok.ensures.passes.1);
  stays = c.in-Ok.ensures.stays;
  passes = passing-next pieces_of_line pieces_of refl (λ x xs. refl) c.args.place c.loop-line.place c.args.lines.now c.loop-line.line-index c.loop-line.invariant.passes
      c.line-item.result c.in-Ok.next c.loop-line-test.true c.line-item.is c.in-Ok.ensures.passes;
}

pub returns-in-Err : goal.returns-in-Err
returns-in-Err c = passing-stops pieces_of_line pieces_of refl (λ x xs. refl) c.args.place c.loop-line.place c.args.lines.now c.loop-line.line-index c.loop-line.invariant.passes
    c.line-item.result c.in-Err.e c.loop-line-test.true c.line-item.is c.in-Err.ensures.passes

pub returns : goal.returns
returns c = passing-ends pieces_of_line pieces_of refl (λ x xs. refl) c.args.place c.loop-line.place c.args.lines.now c.loop-line.line-index c.loop-line.invariant.passes
    c.loop-line-test.false c.loop-line.invariant.small
