use Rattle.std.proofs.Common.{◌∙◌, subst, sym, ◌<◌}
use Rattle.dd_world.specs.Tests.{passes}
use Rattle.dd_world.proofs.Below.{all_below-at}
use Rattle.dd_world.proofs.included.are_all_passed.Goals as goal

pub returns-then-not-is_passed : goal.returns-then-not-is_passed
returns-then-not-is_passed c =
    sym (all_below-at (passes c.args.w.now c.args.peer c.args.left.now c.args.right.now) _ c.loop-x.x
    (subst (λ n. c.loop-x.x < n) c.size-x-end.ensures c.loop-x-test.true)
    (sym c.is_passed.ensures ∙ c.if-not-is_passed.true))
