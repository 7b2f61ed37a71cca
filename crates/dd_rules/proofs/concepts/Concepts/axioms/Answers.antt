use Rattle.std.proofs.Common.{◌≡◌, ◌∙◌, ◌+◌, arith, sym, subst, map, take, get_or}
use Rattle.dd_rules.specs.Compiled.{Closure, concept_at}
use Rattle.dd_rules.specs.Numbers.{axiom_numbers, place_of}
use Rattle.dd_rules.specs.Trees.{trees}
use Rattle.dd_rules.specs.Walks.{concepts_in}
use Rattle.dd_rules.specs.declared.source.AxiomRows.{AxiomRows}
use Rattle.dd_rules.proofs.Growing.{length-trees}
use Rattle.dd_rules.proofs.Kept.{numbers-count, axiom-at, sides-there, place-is, axiom-next}
use Rattle.dd_rules.proofs.concepts.Concepts.axioms.Goals as goal

abbrev none : AxiomRows
none = record { left = 0; right = 0; not_left = 0; normal_right = 0 }

pub joined_at-requires-clause-numbers : goal.joined_at-requires-clause-numbers
joined_at-requires-clause-numbers c =
    let s = c.self.inside in
    numbers-count s.rows.keys s.order.items s.numbers.items s.axioms.items c.self.invariant c.deref.result.now c.deref.ensures.value

pub joined_at-requires-clause-within : goal.joined_at-requires-clause-within
joined_at-requires-clause-within c =
    let s = c.self.inside in
    let one = get_or c.deref-s-items.result.now c.loop-s.s-index none in
    let sides = c.self.invariant.sides c.loop-s.s-index one (axiom-at c.deref-s-items.result.now s.axioms.items c.loop-s.s-index none c.deref-s-items.ensures.value c.loop-s-test.true) in
    omega (arith, sides.left, length-trees s.rows.keys)

pub place_at-requires : goal.place_at-requires
place_at-requires c =
    let s = c.self.inside in
    let one = get_or c.deref-s-items.result.now c.loop-s.s-index none in
    let sides = c.self.invariant.sides c.loop-s.s-index one (axiom-at c.deref-s-items.result.now s.axioms.items c.loop-s.s-index none c.deref-s-items.ensures.value c.loop-s-test.true) in
    omega (arith, sides.not_left, length-trees s.rows.keys, numbers-count s.rows.keys s.order.items s.numbers.items s.axioms.items c.self.invariant c.deref-in-loop-s.result.now c.deref-in-loop-s.ensures.value)

pub place_at-requires-in-loop-s : goal.place_at-requires-in-loop-s
place_at-requires-in-loop-s c =
    let s = c.self.inside in
    let one = get_or c.deref-s-items.result.now c.loop-s.s-index none in
    let sides = c.self.invariant.sides c.loop-s.s-index one (axiom-at c.deref-s-items.result.now s.axioms.items c.loop-s.s-index none c.deref-s-items.ensures.value c.loop-s-test.true) in
    omega (arith, sides.normal_right, length-trees s.rows.keys, numbers-count s.rows.keys s.order.items s.numbers.items s.axioms.items c.self.invariant c.deref-in-loop-s-2.result.now c.deref-in-loop-s-2.ensures.value)

pub loop-s-preserved : goal.loop-s-preserved
loop-s-preserved c =
    let s = c.self.inside in
    let k = c.loop-s.s-index in
    let one = get_or c.deref-s-items.result.now k none in
    let ts = trees s.rows.keys in
    let xs = concepts_in ts s.order.items in
    let here = axiom-at c.deref-s-items.result.now s.axioms.items k none c.deref-s-items.ensures.value c.loop-s-test.true in
    let sides = c.self.invariant.sides k one here in
    let there = sides-there s.rows.keys s.order.items s.numbers.items s.axioms.items c.self.invariant k one here in
    let before = subst (λ (v : Closure). c.loop-s.list.items ≡ map (axiom_numbers v.concepts) (take k v.axioms)) (sym c.self.view_is) c.loop-s.invariant in
    subst (λ (v : Closure). c.push.new.self.items ≡ map (axiom_numbers v.concepts) (take (k + 1) v.axioms)) c.self.view_is
    (axiom-next s.rows.keys s.order.items s.numbers.items s.axioms.items c.self.invariant k one c.place_at.result c.place_at-in-loop-s.result c.in_ok-joined.joined c.loop-s.list.items c.push.new.self.items here
    (c.place_at.ensures (place_of xs (concept_at ts one.not_left)) (place-is s.rows.keys s.order.items s.numbers.items s.axioms.items c.self.invariant c.deref-in-loop-s.result.now one.not_left c.deref-in-loop-s.ensures.value sides.not_left there.0))
    (c.place_at-in-loop-s.ensures (place_of xs (concept_at ts one.normal_right)) (place-is s.rows.keys s.order.items s.numbers.items s.axioms.items c.self.invariant c.deref-in-loop-s-2.result.now one.normal_right c.deref-in-loop-s-2.ensures.value sides.normal_right there.1))
    (c.in_ok-joined.ensures xs (c.deref.ensures.value ∙ c.self.invariant.numbers_are)) before c.in_ok-push.ensures.items)
