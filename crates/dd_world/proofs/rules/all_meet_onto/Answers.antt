use Rattle.std.proofs.Common.{◌∙◌, subst, sym, ◌<◌}
use Rattle.dd_world.specs.Tests.{keeps_onto}
use Rattle.dd_world.proofs.Below.{all_below-at}
use Rattle.dd_world.proofs.rules.all_meet_onto.Goals as goal

pub returns-then-not-element_meets_onto : goal.returns-then-not-element_meets_onto
returns-then-not-element_meets_onto c =
    sym (all_below-at (keeps_onto c.args.w.now c.args.peer c.args.rule.now) _ c.loop-x.x
    (subst (λ n. c.loop-x.x < n) c.size-x-end.ensures c.loop-x-test.true)
    (sym c.element_meets_onto.ensures ∙ c.if-not-element_meets_onto.true))
