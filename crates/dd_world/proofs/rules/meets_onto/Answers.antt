use Rattle.std.proofs.Common.{◌≡◌, ◌∙◌, true, sym, subst}
use Rattle.dd_world.specs.Tests.{keeps_onto}
use Rattle.dd_world.proofs.Mentioned.{satisfies_onto-named}
use Rattle.dd_world.proofs.rules.meets_onto.Goals as goal

pub returns-then-element_meets_onto : goal.returns-then-element_meets_onto
returns-then-element_meets_onto c = c.named_meet_onto.ensures
    ∙ satisfies_onto-named c.args.w.now c.args.peer c.requires.shaped c.args.rule.now c.requires.links
    (subst (λ n. keeps_onto c.args.w.now c.args.peer c.args.rule.now n ≡ true) c.size.ensures
    (sym c.element_meets_onto.ensures ∙ c.if-element_meets_onto.true))
