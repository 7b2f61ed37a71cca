use Rattle.std.proofs.Common.{◌≡◌, ◌∙◌, ◌++◌, ◌∷◌, [], ap, subst, true}
use Rattle.dd_graph.specs.View.{view_of}
use Rattle.dd_rules.specs.Compiled.{rules_in}
use Rattle.dd_rules.specs.Forced.{forces}
use Rattle.dd_set.specs.Words.{has}
use Rattle.dd_close.proofs.forced.climb_one.Goals as goal

pub returns-clause-climbs : goal.returns-clause-climbs
returns-clause-climbs c =
    let first = subst (λ k. forces (rules_in k c.props.result.now) (has c.args.label.now.words) c.in-Some.step ≡ true) c.compiled.ensures c.in-Some.ensures.some in
    let forced = subst (λ q. forces (rules_in (view_of c.args.g.now).closure q) (has c.args.label.now.words) c.in-Some.step ≡ true) c.props.ensures first in
    record {
      step = c.in-Some.step;
      longer = c.in_ok-push.ensures.items ∙ ap (λ b. c.args.log.now.items ++ record { before = b; step = c.in-Some.step } ∷ []) c.in_ok-copy.ensures;
      forced = forced;
      adds = c.add_forced.ensures.adds;
      low = c.width-width.ensures.packed.within c.add_forced.ensures.adds.number c.add_forced.ensures.adds.is_now;
    }
