use Rattle.std.proofs.Common.{◌≡◌, ◌∙◌, sym, ap, subst, map, take, get_or, ◌+◌, ◌++◌, ◌∷◌, []}
use Rattle.dd_rules.specs.Compiled.{Closure, concept_at}
use Rattle.dd_rules.specs.Numbers.{shape_of}
use Rattle.dd_rules.specs.Trees.{trees}
use Rattle.dd_rules.specs.Walks.{concepts_in}
use Rattle.dd_rules.proofs.Kept.{numbers-count, order-at, order-low, concept-get, concept-has, map-next}
use Rattle.dd_rules.proofs.concepts.Concepts.shapes.Goals as goal

pub shape_at-requires-clause-numbers : goal.shape_at-requires-clause-numbers
shape_at-requires-clause-numbers c =
    let s = c.self.inside in
    numbers-count s.rows.keys s.order.items s.numbers.items s.axioms.items c.self.invariant c.deref.result.now c.deref.ensures.value

pub shape_at-requires-clause-within : goal.shape_at-requires-clause-within
shape_at-requires-clause-within c =
    let s = c.self.inside in
    order-low s.rows.keys s.order.items s.numbers.items s.axioms.items c.self.invariant c.deref-n-items.result.now c.loop-n.n-index c.deref-n-items.ensures.value c.loop-n-test.true

pub loop-n-preserved : goal.loop-n-preserved
loop-n-preserved c =
    let s = c.self.inside in
    let k = c.loop-n.n-index in
    let n = get_or c.deref-n-items.result.now k 0 in
    let ts = trees s.rows.keys in
    let xs = concepts_in ts s.order.items in
    let here = order-at s.rows.keys s.order.items s.numbers.items s.axioms.items c.self.invariant c.deref-n-items.result.now k c.deref-n-items.ensures.value c.loop-n-test.true in
    let before = subst (λ (v : Closure). c.loop-n.list.items ≡ map (shape_of v.concepts) (take k v.concepts)) (sym c.self.view_is) c.loop-n.invariant in
    let is = c.shape_at.ensures xs (c.deref.ensures.value ∙ c.self.invariant.numbers_are) c.self.invariant.closed.parts (concept-has s.rows.keys s.order.items s.numbers.items s.axioms.items c.self.invariant k n here) in
    subst (λ (v : Closure). c.push.new.self.items ≡ map (shape_of v.concepts) (take (k + 1) v.concepts)) c.self.view_is
    (map-next (shape_of xs) xs k (concept_at ts n) c.loop-n.list.items c.push.new.self.items (concept-get s.rows.keys s.order.items s.numbers.items s.axioms.items c.self.invariant k n here) before
    (c.in_ok-push.ensures.items ∙ ap (λ x. c.loop-n.list.items ++ x ∷ []) is))
