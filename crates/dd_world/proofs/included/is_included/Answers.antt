use Rattle.std.proofs.Common.{◌≡◌, ◌∙◌, true, sym, subst}
use Rattle.dd_world.specs.Tests.{passes}
use Rattle.dd_world.proofs.Mentioned.{is_under-named}
use Rattle.dd_world.proofs.included.is_included.Goals as goal

pub returns-then-is_passed : goal.returns-then-is_passed
returns-then-is_passed c = c.are_named_passed.ensures
    ∙ is_under-named c.args.w.now c.args.peer c.requires c.args.left.now c.args.right.now
    (subst (λ n. passes c.args.w.now c.args.peer c.args.left.now c.args.right.now n ≡ true) c.size.ensures
    (sym c.is_passed.ensures ∙ c.if-is_passed.true))
