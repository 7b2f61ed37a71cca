use Rattle.std.proofs.Common.{◌∙◌, ap, List, ℕ, slice_get}
use Rattle.dd_rules.specs.Numbers.{Rules, additions}
use Rattle.dd_rules.specs.Tables.{tabled_rules}
use Rattle.dd_rules.proofs.Tabled.{rules-same}
use Rattle.dd_rules.proofs.compiled.Compiled.addition.Goals as goal

pub returns : goal.returns
returns c = c.addition.ensures ∙ ap (λ (r : Rules). slice_get (additions r c.args.step) c.args.k)
    (ap (λ (l : List (ℕ × ℕ × List ℕ)). tabled_rules c.tables.result.now l) c.as_slice.ensures ∙ rules-same c.args.self.now c.tables.result.now c.tables.ensures c.args.props.now c.requires.props)
