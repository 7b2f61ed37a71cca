use Rattle.std.proofs.Common.{sym, ◌∙◌}
use Rattle.dd_cert.specs.Steps.{past_element}
use Rattle.dd_cert.proofs.Loops.{walk-ends, walk-next}
use Rattle.dd_cert.proofs.limits.pass_elements.Goals as goal

pub loop-name-preserved : goal.loop-name-preserved
loop-name-preserved c =
    walk-next past_element c.args.place c.args.names.now c.loop-name.place c.loop-name.name-index c.loop-name.invariant c.name-item.result c.in_ok-place.place c.loop-name-test.true c.name-item.is
    (sym c.pass_number.ensures ∙ c.in_ok-place.was)

pub returns : goal.returns
returns c = walk-ends past_element c.args.place c.args.names.now c.loop-name.place c.loop-name.name-index c.loop-name.invariant c.loop-name-test.false
