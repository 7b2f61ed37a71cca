use Rattle.std.proofs.Common.{◌≡◌, ◌∙◌, ◌<◌, arith, sym, ap, subst, length, Some, slice_get, refl, IfOk}
use Rattle.std.proofs.lemmas.List.{length-map}
use Rattle.std.proofs.lemmas.Option.{slice_get_read}
use Rattle.dd_rules.specs.Compiled.{Closure, concept_at}
use Rattle.dd_rules.specs.Trees.{trees}
use Rattle.dd_rules.specs.Walks.{concepts_in}
use Rattle.dd_rules.proofs.Growing.{length-trees}
use Rattle.dd_rules.proofs.Kept.{concept-get, ok-then}
use Rattle.dd_rules.proofs.concepts.Concepts.concept.Goals as goal

pub build-requires-clause-within : goal.build-requires-clause-within
build-requires-clause-within c =
    let s = c.self.inside in
    let count = subst (λ (v : Closure). c.args.n < length v.concepts) (sym c.self.view_is) c.requires in
    let low : c.args.n < length s.order.items = omega (arith, count, length-map s.order.items (concept_at (trees s.rows.keys))) in
    let here = slice_get_read s.order.items (length s.order.items) c.args.n c.index.result.now refl low c.index.ensures in
    let w = c.self.invariant.within c.args.n c.index.result.now here in
    omega (arith, w, length-trees s.rows.keys)

pub returns : goal.returns
returns c =
    let s = c.self.inside in
    let count = subst (λ (v : Closure). c.args.n < length v.concepts) (sym c.self.view_is) c.requires in
    let low : c.args.n < length s.order.items = omega (arith, count, length-map s.order.items (concept_at (trees s.rows.keys))) in
    let here = slice_get_read s.order.items (length s.order.items) c.args.n c.index.result.now refl low c.index.ensures in
    subst (λ (v : Closure). IfOk c.build.result (λ d. slice_get v.concepts c.args.n ≡ Some d)) c.self.view_is
    (ok-then c.build.result (λ d. d ≡ concept_at (trees s.rows.keys) c.index.result.now) (λ d. slice_get (concepts_in (trees s.rows.keys) s.order.items) c.args.n ≡ Some d)
    (λ d is. concept-get s.rows.keys s.order.items s.numbers.items s.axioms.items c.self.invariant c.args.n c.index.result.now here ∙ ap Some (sym is)) c.build.ensures)
