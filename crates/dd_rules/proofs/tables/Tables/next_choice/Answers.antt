use Rattle.std.proofs.Common.{◌≡◌, ◌∙◌, ap, refl, sym, List, Option, ℕ}
use Rattle.std.specs.List.{list_all}
use Rattle.dd_set.specs.Words.{has}
use Rattle.dd_rules.specs.Numbers.{all_at, calls_for, decides_axiom, decides_or, decides_prop}
use Rattle.dd_rules.specs.Tables.{Numbered, prop_with, tabled_rules}
use Rattle.dd_rules.proofs.Choosing.{prop-called, complete-from}
use Rattle.dd_rules.proofs.tables.Tables.next_choice.Goals as goal

pub returns-in-Some-open_prop-clause-some : goal.returns-in-Some-open_prop-clause-some
returns-in-Some-open_prop-clause-some c =
    let p = has c.args.label.now.words in
    let r = tabled_rules c.args.self.now c.args.props.now in
    let joined : c.deref-3.result.now ≡ c.args.self.now.joined = c.deref-3.ensures.value ∙ ap (λ (t : Numbered). t.joined) c.self.view_is in
    let found = c.in-Some-open_prop.ensures.some in
    ap (calls_for r p) (c.prop_step.ensures found.0 found.1)
    ∙ prop-called r p c.args.self.now.joined c.args.props.now c.in-Some-open_prop.k found.0 refl found.1 (ap (λ (j : List (Option (List (Option ℕ)))). decides_prop p (prop_with j found.0)) (sym joined) ∙ found.2)

pub returns-in-None-clause-none : goal.returns-in-None-clause-none
returns-in-None-clause-none c _ =
    let p = has c.args.label.now.words in
    let r = tabled_rules c.args.self.now c.args.props.now in
    let shapes : c.deref.result.now ≡ c.args.self.now.shapes = c.deref.ensures.value ∙ ap (λ (t : Numbered). t.shapes) c.self.view_is in
    let axioms : c.deref-2.result.now ≡ c.args.self.now.axioms = c.deref-2.ensures.value ∙ ap (λ (t : Numbered). t.axioms) c.self.view_is in
    let joined : c.deref-3.result.now ≡ c.args.self.now.joined = c.deref-3.ensures.value ∙ ap (λ (t : Numbered). t.joined) c.self.view_is in
    complete-from r p c.args.self.now.joined c.args.props.now refl
    (ap (all_at (decides_or p)) (sym shapes) ∙ c.in_default.ensures.none refl)
    (ap (list_all (decides_axiom p)) (sym axioms) ∙ c.in_default-open_axiom.ensures.none refl)
    (ap (λ (j : List (Option (List (Option ℕ)))). list_all (λ t. decides_prop p (prop_with j t)) c.args.props.now) (sym joined) ∙ c.in-None.ensures.none refl)
