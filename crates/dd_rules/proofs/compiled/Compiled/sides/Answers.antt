use Rattle.std.proofs.Common.{◌≡◌, ◌∙◌, ap, subst, map, slice_get, Some}
use Rattle.dd_rules.specs.Compiled.{Closure, sides_numbers}
use Rattle.dd_rules.specs.declared.compiled.Compiled.TheInside.{Inside}
use Rattle.dd_rules.proofs.Within.{sides-read}
use Rattle.dd_rules.proofs.compiled.Compiled.sides.Goals as goal

pub returns : goal.returns
returns c =
    let s = c.self.inside in
    subst (λ (v : Closure). slice_get (map (sides_numbers v.concepts) v.axioms) c.args.index ≡ Some (c.axiom_at-row.result.now.left, c.axiom_at-row.result.now.right)) c.self.view_is
    (sides-read s.concepts.concepts s.concepts.axioms c.deref.result.now c.args.index c.axiom_at-row.result.now
    (c.deref.ensures.value ∙ ap (λ (v : Inside). v.tables.axioms) c.self-inside.view_is ∙ c.self.invariant.axioms) c.axiom_at-row.ensures)
