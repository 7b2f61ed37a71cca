use Rattle.std.proofs.Common.{◌∙◌, sym, arith}
use Rattle.dd_check.proofs.Bridges.{end-rises, rise-next}
use Rattle.dd_check.proofs.bridge.rises.Goals as goal

pub loop-k-preserved : goal.loop-k-preserved
loop-k-preserved c =
    let one = c.loop-k.invariant.0 in
    (omega (arith, one), c.loop-k.invariant.1 ∙ rise-next c.args.numbers.now c.loop-k.k one c.loop-k-test.true c.if-numbers-k.false)

pub returns : goal.returns
returns c = sym (c.loop-k.invariant.1 ∙ end-rises c.args.numbers.now c.loop-k.k c.loop-k.invariant.0 c.loop-k-test.false)
