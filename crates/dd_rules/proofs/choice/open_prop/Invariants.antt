use Rattle.std.proofs.Common.{◌≡◌, true}
use Rattle.dd_set.specs.Words.{has}
use Rattle.dd_rules.specs.Numbers.{decides_prop}
use Rattle.dd_rules.specs.Tables.{prop_with}
use Rattle.dd_rules.proofs.Walks.{EachBelow}
use Rattle.dd_rules.proofs.choice.open_prop.Given as goal

abbrev pub invariant-loop-k : goal.invariant-loop-k
invariant-loop-k l = EachBelow (λ m t. decides_prop (has l.label.words) (prop_with l.joined t) ≡ true) l.props l.k
