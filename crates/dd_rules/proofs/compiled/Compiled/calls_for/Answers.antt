use Rattle.std.proofs.Common.{◌∙◌, ap, List, ℕ}
use Rattle.dd_set.specs.Words.{has}
use Rattle.dd_rules.specs.Numbers.{Rules, calls_for}
use Rattle.dd_rules.specs.Tables.{tabled_rules}
use Rattle.dd_rules.proofs.Tabled.{rules-same}
use Rattle.dd_rules.proofs.compiled.Compiled.calls_for.Goals as goal

pub returns : goal.returns
returns c = c.calls_for.ensures ∙ ap (λ (r : Rules). calls_for r (has c.args.label.now.words) c.args.step)
    (ap (λ (l : List (ℕ × ℕ × List ℕ)). tabled_rules c.tables.result.now l) c.as_slice.ensures ∙ rules-same c.args.self.now c.tables.result.now c.tables.ensures c.args.props.now c.requires.props)
