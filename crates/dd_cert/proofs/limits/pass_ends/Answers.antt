use Rattle.std.proofs.Common.{sym, ap, ◌∙◌}
use Rattle.dd_cert.specs.Steps.{◌>>=◌, past_ends, past_number}
use Rattle.dd_cert.proofs.Loops.{walk-ends, walk-next}
use Rattle.dd_cert.proofs.limits.pass_ends.Goals as goal

pub loop-role-preserved : goal.loop-role-preserved
loop-role-preserved c =
    walk-next past_ends c.args.place c.args.roles.now c.loop-role.place c.loop-role.role-index c.loop-role.invariant c.role-item.result c.in_ok-place.place c.loop-role-test.true c.role-item.is
    (ap (λ r. r >>= (λ n. past_number n c.role-item.result.2)) (sym c.pass_number.ensures ∙ c.in_ok-next.was) ∙ sym c.pass_number-in-loop-role.ensures ∙ c.in_ok-place.was)

pub returns : goal.returns
returns c = walk-ends past_ends c.args.place c.args.roles.now c.loop-role.place c.loop-role.role-index c.loop-role.invariant c.loop-role-test.false
