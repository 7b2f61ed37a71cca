use Rattle.std.proofs.Common.{◌≡◌, ◌∙◌, ap, subst, true, None, List, ℕ}
use Rattle.std.specs.Prelude.{IfSome, ◌↔◌}
use Rattle.dd_set.specs.Words.{has}
use Rattle.dd_rules.specs.Compiled.{rules_in}
use Rattle.dd_rules.specs.Numbers.{Rules, calls_for, is_complete}
use Rattle.dd_rules.specs.Tables.{tabled_rules}
use Rattle.dd_rules.proofs.Tabled.{complete-seen, rules-same, step-seen}
use Rattle.dd_rules.proofs.compiled.Compiled.first_choice.Goals as goal
use Rattle.dd_rules.proofs.compiled.Compiled.first_choice.Goals.{After-first_choice}

rules : (c : After-first_choice) → tabled_rules c.tables.result.now c.as_slice.result.now ≡ rules_in c.args.self.now c.args.props.now
rules c = ap (λ (l : List (ℕ × ℕ × List ℕ)). tabled_rules c.tables.result.now l) c.as_slice.ensures ∙ rules-same c.args.self.now c.tables.result.now c.tables.ensures c.args.props.now c.requires.props

some : (c : After-first_choice) → IfSome c.first_choice.result (λ s. calls_for (rules_in c.args.self.now c.args.props.now) (has c.args.label.now.words) s ≡ true)
some c = subst (λ (r : Rules). IfSome c.first_choice.result (λ s. calls_for r (has c.args.label.now.words) s ≡ true)) (rules c) c.first_choice.ensures.some

none : (c : After-first_choice) → (c.first_choice.result ≡ None) ↔ (is_complete (rules_in c.args.self.now c.args.props.now) (has c.args.label.now.words) ≡ true)
none c = subst (λ (r : Rules). (c.first_choice.result ≡ None) ↔ (is_complete r (has c.args.label.now.words) ≡ true)) (rules c) c.first_choice.ensures.none

pub returns-clause-some : goal.returns-clause-some
returns-clause-some c = some (goal.at.returns-clause-some c).After-first_choice

pub returns-clause-none : goal.returns-clause-none
returns-clause-none c = none (goal.at.returns-clause-none c).After-first_choice

pub returns-clause-step : goal.returns-clause-step
returns-clause-step c = step-seen c.args.self.now c.tables.result.now c.tables.ensures c.args.props.now c.args.label.now.words c.first_choice.result c.requires.props
    (some (goal.at.returns-clause-step c).After-first_choice)

pub returns-clause-complete : goal.returns-clause-complete
returns-clause-complete c = complete-seen c.args.self.now c.tables.result.now c.tables.ensures c.args.props.now c.args.label.now.words c.first_choice.result c.requires.props
    (none (goal.at.returns-clause-complete c).After-first_choice)
