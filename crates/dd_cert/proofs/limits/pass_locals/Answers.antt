use Rattle.std.proofs.Common.{sym, ◌∙◌}
use Rattle.dd_cert.specs.Steps.{past_local}
use Rattle.dd_cert.proofs.Loops.{walk-ends, walk-next}
use Rattle.dd_cert.proofs.limits.pass_locals.Goals as goal

pub loop-local-preserved : goal.loop-local-preserved
loop-local-preserved c =
    walk-next past_local c.args.place c.args.locals.now c.loop-local.place c.loop-local.local-index c.loop-local.invariant c.local-item.result c.in_ok-place.place c.loop-local-test.true c.local-item.is
    (sym c.pass_local.ensures ∙ c.in_ok-place.was)

pub returns : goal.returns
returns c = walk-ends past_local c.args.place c.args.locals.now c.loop-local.place c.loop-local.local-index c.loop-local.invariant c.loop-local-test.false
