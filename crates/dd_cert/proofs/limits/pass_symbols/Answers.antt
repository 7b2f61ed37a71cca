use Rattle.std.proofs.Common.{sym, ap, ◌∙◌}
use Rattle.dd_cert.specs.Steps.{◌>>=◌, past_name, past_role, past_symbols, walk}
use Rattle.dd_cert.proofs.Loops.{walk-ends, walk-next}
use Rattle.dd_cert.proofs.limits.pass_symbols.Goals as goal

pub loop-local-preserved : goal.loop-local-preserved
loop-local-preserved c =
    walk-next past_symbols c.args.place c.args.locals.now c.loop-local.place c.loop-local.local-index c.loop-local.invariant c.local-item.result c.in_ok-place.place c.loop-local-test.true c.local-item.is
    (ap (λ r. r >>= (λ n. walk past_role n c.local-item.result.roles)) (ap (walk past_name c.loop-local.place) (sym c.as_slice.ensures) ∙ sym c.pass_names.ensures ∙ c.in_ok-next.was)
    ∙ ap (walk past_role c.in_ok-next.next) (sym c.as_slice-in-loop-local.ensures) ∙ sym c.pass_roles.ensures ∙ c.in_ok-place.was)

pub returns : goal.returns
returns c = walk-ends past_symbols c.args.place c.args.locals.now c.loop-local.place c.loop-local.local-index c.loop-local.invariant c.loop-local-test.false
