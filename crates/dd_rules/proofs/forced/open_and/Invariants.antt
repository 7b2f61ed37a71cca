use Rattle.std.proofs.Common.{◌≡◌, ◌-◌, true}
use Rattle.dd_set.specs.Words.{has}
use Rattle.dd_rules.specs.Numbers.{keeps_and}
use Rattle.dd_rules.proofs.Walks.{EachBelow}
use Rattle.dd_rules.proofs.forced.open_and.Given as goal

abbrev pub invariant-loop-n : goal.invariant-loop-n
invariant-loop-n l = EachBelow (λ m s. keeps_and (has l.label.words) m s ≡ true) l.shapes l.from

abbrev pub decreases-loop-n : goal.decreases-loop-n
decreases-loop-n l = l.label.width - l.from
