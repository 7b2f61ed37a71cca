use Rattle.std.proofs.Common.{◌≡◌, ◌∙◌, ap, subst, [], List, ℕ}
use Rattle.dd_set.specs.Words.{has}
use Rattle.dd_rules.specs.declared.tables.AxiomNumbers.{AxiomNumbers}
use Rattle.dd_rules.specs.Handled.{IsFired}
use Rattle.dd_rules.specs.Index.{IsIndex}
use Rattle.dd_rules.specs.Tables.{Numbered, tabled_rules}
use Rattle.dd_rules.proofs.Draining.{plain-fired}
use Rattle.dd_rules.proofs.tables.Tables.fire_plain.Goals as goal

pub returns-clause-unnamed : goal.returns-clause-unnamed
returns-clause-unnamed c =
    let axioms : c.deref.result.now ≡ c.args.self.now.axioms = c.deref.ensures.value ∙ ap (λ (t : Numbered). t.axioms) c.self.view_is in
    let inside : c.self.inside.axioms.items ≡ c.args.self.now.axioms = ap (λ (t : Numbered). t.axioms) c.self.view_is in
    plain-fired (tabled_rules c.args.self.now []) c.self.inside.index.lists.items c.self.inside.index.plain (has c.args.label.now.words) (has c.fire_all.new.label.words)
    (subst (λ (a : List AxiomNumbers). IsIndex a c.self.inside.index.lists.items c.self.inside.index.plain) inside c.self.invariant.4)
    (subst (λ (a : List AxiomNumbers). IsFired a c.self.inside.index.plain (has c.args.label.now.words) (has c.fire_all.new.label.words)) axioms
    (subst (λ (ks : List ℕ). IsFired c.deref.result.now ks (has c.args.label.now.words) (has c.fire_all.new.label.words)) c.as_slice.ensures c.fire_all.ensures.fired))
