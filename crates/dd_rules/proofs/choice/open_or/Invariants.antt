use Rattle.std.proofs.Common.{◌≡◌, ◌-◌, true}
use Rattle.dd_set.specs.Words.{has}
use Rattle.dd_rules.specs.Numbers.{decides_or}
use Rattle.dd_rules.proofs.Walks.{EachBelow}
use Rattle.dd_rules.proofs.choice.open_or.Given as goal

abbrev pub invariant-loop-n : goal.invariant-loop-n
invariant-loop-n l = EachBelow (λ m s. decides_or (has l.label.words) m s ≡ true) l.shapes l.from

abbrev pub decreases-loop-n : goal.decreases-loop-n
decreases-loop-n l = l.label.width - l.from
