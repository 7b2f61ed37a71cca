use Rattle.std.proofs.Common.{arith}
use Rattle.dd_interp.proofs.Charts.{values_more}
use Rattle.dd_interp.proofs.valued.values.Goals as goal

pub loop-x-preserved : goal.loop-x-preserved
loop-x-preserved c test has listed = values_more test c.loop-x.values.items c.push.new.self.items c.args.elements.now c.loop-x.x-index c.value.result
    (omega (arith, c.loop-x-test.true)) c.in_ok-push.ensures.items (c.value.ensures test has (listed c.loop-x.x-index 0 (omega (arith, c.loop-x-test.true)))) (c.loop-x.invariant test has listed)
