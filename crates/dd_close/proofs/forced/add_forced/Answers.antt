use Rattle.std.proofs.Common.{◌≡◌, ◌∙◌, ◌<◌, ap, sym, subst, map, slice_get, true}
use Rattle.dd_graph.specs.View.{rules_at, view_of}
use Rattle.dd_rules.specs.Compiled.{sides_numbers}
use Rattle.dd_rules.specs.Forced.{forces}
use Rattle.dd_set.specs.Words.{has}
use Rattle.dd_close.specs.Logs.{AddsForced}
use Rattle.dd_close.proofs.Climbing.{right-adds, sides-low}
use Rattle.dd_close.proofs.forced.add_forced.Goals as goal

pub insert-requires : goal.insert-requires
insert-requires c =
    let v = view_of c.args.g.now in
    let here = sym (ap (λ k. slice_get (map (sides_numbers k.concepts) k.axioms) c.in-Axiom.index) c.compiled.ensures) ∙ c.sides-right.ensures in
    subst (λ w. c.sides-right.result.1 < w) (sym c.requires.width) (sides-low v c.known.ensures.closed c.in-Axiom.index c.sides-right.result here).1

pub returns-in-Axiom-clause-adds : goal.returns-in-Axiom-clause-adds
returns-in-Axiom-clause-adds c =
    let v = view_of c.args.g.now in
    let here = sym (ap (λ k. slice_get (map (sides_numbers k.concepts) k.axioms) c.in-Axiom.index) c.compiled.ensures) ∙ c.sides-right.ensures in
    subst (λ s. AddsForced (rules_at v) s (has c.args.label.now.words) (has c.insert.new.self.words)) (sym c.in-Axiom.is)
    (right-adds v c.in-Axiom.index c.sides-right.result (has c.args.label.now.words) (has c.insert.new.self.words) here
    (subst (λ s. forces (rules_at v) (has c.args.label.now.words) s ≡ true) c.in-Axiom.is c.requires.forced) c.insert.ensures.with)
