use Rattle.std.proofs.Common.{◌∙◌, ◌+◌, ap, sym, subst, arith}
use Rattle.dd_set.specs.Marked.{Arrivals}
use Rattle.dd_graph.specs.Trail.{IsTrail, looked_at}
use Rattle.dd_graph.proofs.Confirming.{left-told, within-told, trail-left, trail-turn, trail-whole}
use Rattle.dd_graph.proofs.kernel.Kernel.first_left.Goals as goal

pub returns-then-is_left-clause-left : goal.returns-then-is_left-clause-left
returns-then-is_left-clause-left c =
    let k = c.args.self.now in
    let told = left-told k c.deref.result.now c.count-width.result c.in-Some.id c.is_left.result c.deref.ensures.value c.count-width.ensures c.is_left.ensures in
    trail-left k c.loop-id.at c.in-Some.id c.loop-id.list.list c.loop-id.invariant.trail (sym c.get.ensures.number ∙ c.in-Some.is) (sym told ∙ c.if-is_left.true)

pub look_at-requires : goal.look_at-requires
look_at-requires c =
    let k = c.args.self.now in
    let told = left-told k c.deref.result.now c.count-width.result c.in-Some.id c.is_left.result c.deref.ensures.value c.count-width.ensures c.is_left.ensures in record {
      within = within-told k c.preferred-hint.result c.loop-id.at c.in-Some.id c.loop-id.list.bound c.loop-id.list.list c.deref-in-Some.result.now c.loop-id.invariant.trail (sym c.get.ensures.number ∙ c.in-Some.is)
          c.deref-in-Some.ensures.value c.loop-id.invariant.bound (sym told ∙ c.if-is_left.false);
    }

pub loop-id-preserved : goal.loop-id-preserved
loop-id-preserved c =
    let k = c.args.self.now in
    let told = left-told k c.deref.result.now c.count-width.result c.in-Some.id c.is_left.result c.deref.ensures.value c.count-width.ensures c.is_left.ensures in
    let bound = ap (λ (m : Arrivals). m.bound) c.look_at.ensures in
    let list = ap (λ (m : Arrivals). m.list) c.look_at.ensures in record {
      bound = bound ∙ c.loop-id.invariant.bound;
      place = let lt = c.get.ensures.within in omega (arith, bound, c.in-Some.ensures.within);
      trail = subst (IsTrail k (c.loop-id.at + 1)) (sym (list ∙ ap (λ es. looked_at es c.preferred-hint.result c.in-Some.id c.loop-id.list.list) c.deref-in-Some.ensures.value))
          (trail-turn k c.loop-id.at c.in-Some.id c.loop-id.list.list c.loop-id.invariant.trail (sym c.get.ensures.number ∙ c.in-Some.is) c.preferred-hint.result (sym told ∙ c.if-is_left.false));
    }

pub returns-clause-trail : goal.returns-clause-trail
returns-clause-trail c t = trail-whole c.args.self.now c.loop-id.at c.loop-id.list.list (sym c.get.ensures.number ∙ c.in_default.is) c.loop-id.invariant.trail
