use Rattle.std.proofs.Common.{sym, ap, ◌∙◌}
use Rattle.dd_cert.specs.Steps.{past_role, past_text}
use Rattle.dd_cert.proofs.Loops.{walk-ends, walk-next}
use Rattle.dd_cert.proofs.limits.pass_roles.Goals as goal

pub loop-role-preserved : goal.loop-role-preserved
loop-role-preserved c =
    walk-next past_role c.args.place c.args.roles.now c.loop-role.place c.loop-role.role-index c.loop-role.invariant c.role-item.result c.in_ok-place.place c.loop-role-test.true c.role-item.is
    (ap (past_text c.loop-role.place) (sym c.as_slice.ensures) ∙ sym c.pass_text.ensures ∙ c.in_ok-place.was)

pub returns : goal.returns
returns c = walk-ends past_role c.args.place c.args.roles.now c.loop-role.place c.loop-role.role-index c.loop-role.invariant c.loop-role-test.false
