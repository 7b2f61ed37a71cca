use Rattle.std.proofs.Common.{sym, ap, ◌∙◌}
use Rattle.dd_cert.specs.Steps.{past_name, past_text}
use Rattle.dd_cert.proofs.Loops.{walk-ends, walk-next}
use Rattle.dd_cert.proofs.limits.pass_names.Goals as goal

pub loop-name-preserved : goal.loop-name-preserved
loop-name-preserved c =
    walk-next past_name c.args.place c.args.names.now c.loop-name.place c.loop-name.name-index c.loop-name.invariant c.name-item.result c.in_ok-place.place c.loop-name-test.true c.name-item.is
    (ap (past_text c.loop-name.place) (sym c.as_slice.ensures) ∙ sym c.pass_text.ensures ∙ c.in_ok-place.was)

pub returns : goal.returns
returns c = walk-ends past_name c.args.place c.args.names.now c.loop-name.place c.loop-name.name-index c.loop-name.invariant c.loop-name-test.false
