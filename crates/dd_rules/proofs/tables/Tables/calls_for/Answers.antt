use Rattle.std.proofs.Common.{◌≡◌, ◌∙◌, ◌==◌, ◌&&◌, not, false, ap, sym, List, Option, ℕ, slice_get}
use Rattle.std.specs.List.{list_any}
use Rattle.std.specs.Option.{option_map_or}
use Rattle.dd_set.specs.Words.{has}
use Rattle.dd_rules.specs.Numbers.{PropNumbers, calls_for, decides_prop}
use Rattle.dd_rules.specs.Tables.{Numbered, prop_with, tabled_rules}
use Rattle.dd_rules.proofs.Stepping.{any-of_map, at-of_map}
use Rattle.dd_rules.proofs.tables.Tables.calls_for.Goals as goal

pub returns-then-not-contains : goal.returns-then-not-contains
returns-then-not-contains c =
    let p = has c.args.label.now.words in
    let joined : c.deref-then-not-contains.result.now ≡ c.args.self.now.joined = c.deref-then-not-contains.ensures.value ∙ ap (λ (t : Numbered). t.joined) c.self.view_is in
    c.is_open_cut.ensures
    ∙ ap (λ (j : List (Option (List (Option ℕ)))). list_any (λ t. (t.0 == c.in-Cut.on) && not (decides_prop p (prop_with j t))) c.args.props.now) joined
    ∙ sym (any-of_map (prop_with c.args.self.now.joined) (λ (t : PropNumbers). (t.onto == c.in-Cut.on) && not (decides_prop p t)) c.args.props.now)
    ∙ ap (λ b. b && list_any (λ (t : PropNumbers). (t.onto == c.in-Cut.on) && not (decides_prop p t)) (tabled_rules c.args.self.now c.args.props.now).props)
    (sym (ap not (sym c.contains.ensures ∙ c.if-not-contains.true)))
    ∙ ap (λ s. calls_for (tabled_rules c.args.self.now c.args.props.now) p s) (sym c.in-Cut.is)

pub returns-in-Bridge : goal.returns-in-Bridge
returns-in-Bridge c =
    let p = has c.args.label.now.words in
    let joined : c.deref-in-Bridge.result.now ≡ c.args.self.now.joined = c.deref-in-Bridge.ensures.value ∙ ap (λ (t : Numbered). t.joined) c.self.view_is in
    c.is_open_bridge.ensures
    ∙ ap (λ (j : List (Option (List (Option ℕ)))). option_map_or (λ t. p t.0 && not (decides_prop p (prop_with j t))) (slice_get c.args.props.now c.in-Bridge.prop) false) joined
    ∙ sym (at-of_map (prop_with c.args.self.now.joined) (λ (t : PropNumbers). p t.onto && not (decides_prop p t)) false c.args.props.now c.in-Bridge.prop)
    ∙ ap (λ s. calls_for (tabled_rules c.args.self.now c.args.props.now) p s) (sym c.in-Bridge.is)
