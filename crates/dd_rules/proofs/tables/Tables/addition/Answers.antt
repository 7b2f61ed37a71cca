use Rattle.std.proofs.Common.{◌∙◌, ◌==◌, ◌∷◌, [], ap, sym, slice_get, List, ℕ}
use Rattle.dd_rules.specs.Numbers.{PropNumbers, additions}
use Rattle.dd_rules.specs.Tables.{prop_with, tabled_rules}
use Rattle.dd_rules.proofs.Stepping.{at-of_map, found-of_map}
use Rattle.dd_rules.proofs.tables.Tables.addition.Goals as goal

pub returns-in-Cut : goal.returns-in-Cut
returns-in-Cut c = c.cut_number.ensures
    ∙ ap (λ (l : List ℕ). slice_get l c.args.k) (sym (found-of_map (prop_with c.args.self.now.joined) (λ (t : PropNumbers). t.onto == c.in-Cut.on) (λ (t : PropNumbers). c.in-Cut.on ∷ t.not_onto ∷ []) [] c.args.props.now))
    ∙ ap (λ s. slice_get (additions (tabled_rules c.args.self.now c.args.props.now) s) c.args.k) (sym c.in-Cut.is)

pub returns-in-Bridge : goal.returns-in-Bridge
returns-in-Bridge c = c.bridge_number.ensures
    ∙ ap (λ (l : List ℕ). slice_get l c.args.k) (sym (at-of_map (prop_with c.args.self.now.joined) (λ (t : PropNumbers). t.into) [] c.args.props.now c.in-Bridge.prop))
    ∙ ap (λ s. slice_get (additions (tabled_rules c.args.self.now c.args.props.now) s) c.args.k) (sym c.in-Bridge.is)
