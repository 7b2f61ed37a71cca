use Rattle.std.proofs.Common.{◌≡◌, ◌∙◌, sym, ap, subst, ◌-◌, length, slice_get, slice_set, arith}
use Rattle.std.proofs.lemmas.Bool.{not-true, not-false}
use Rattle.dd_set.specs.Marked.{is_among, Arrivals}
use Rattle.dd_open.specs.Places.{ArePlaces}
use Rattle.dd_open.proofs.Placing.{last-place, placed-more, place-new, place-old}
use Rattle.dd_open.proofs.elements.Elements.place.Goals as goal

-- src/elements.rt:39:13
pub invariant_of-self : goal.invariant_of-self
invariant_of-self c =
    let new = not-true (is_among c.args.n c.args.self.now.marked.list) (sym c.add.ensures.fresh ∙ c.if-add.true) in
    let listed = ap (λ (a : Arrivals). a.list) c.add.ensures.list in
    let last : c.len-place.result - 1 ≡ length c.args.self.now.marked.list =
    ap (λ k. k - 1) (c.len-place.ensures.len ∙ ap length listed) ∙ last-place c.args.self.now.marked.list c.args.n new in
    record {
      wide = c.args.self.now.wide ∙ sym (ap (λ (a : Arrivals). a.bound) c.add.ensures.list);
      placed = subst (λ ns. ArePlaces ns (slice_set c.args.self.now.places.items c.args.n (c.len-place.result - 1))) (sym listed)
          (placed-more c.args.self.now.marked.list c.args.self.now.places.items c.args.n (c.len-place.result - 1) c.args.self.now.placed new
          (omega (arith, c.requires, c.args.self.now.wide)) last);
    }

-- src/elements.rt:40:13
pub returns-then-add-clause-there : goal.returns-then-add-clause-there
returns-then-add-clause-there c =
    let new = not-true (is_among c.args.n c.args.self.now.marked.list) (sym c.add.ensures.fresh ∙ c.if-add.true) in
    let listed = ap (λ (a : Arrivals). a.list) c.add.ensures.list in
    let last : c.len-place.result - 1 ≡ length c.args.self.now.marked.list =
    ap (λ k. k - 1) (c.len-place.ensures.len ∙ ap length listed) ∙ last-place c.args.self.now.marked.list c.args.n new in
    ap (λ l. slice_get l (c.len-place.result - 1)) listed ∙ place-new c.args.self.now.marked.list c.args.n (c.len-place.result - 1) new last

-- src/elements.rt:31:5
pub returns-clause-there : goal.returns-clause-there
returns-clause-there c =
    let there = not-false (is_among c.args.n c.args.self.now.marked.list) (sym c.add.ensures.fresh ∙ c.if-add.false) in
    let listed = ap (λ (a : Arrivals). a.list) c.add.ensures.list in
    ap (λ l. slice_get l c.index.result.now) listed
    ∙ place-old c.args.self.now.marked.list c.args.self.now.places.items c.args.n c.index.result.now c.args.self.now.placed there (sym c.index.ensures)
