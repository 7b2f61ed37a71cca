use Rattle.std.proofs.Common.{◌≡◌, ◌&&◌, ◌-◌, false}
use Rattle.dd_set.specs.Words.{has}
use Rattle.dd_rules.specs.Numbers.{is_not}
use Rattle.dd_rules.proofs.Walks.{EachBelow}
use Rattle.dd_rules.proofs.clash.has_not.Given as goal

abbrev pub invariant-loop-n : goal.invariant-loop-n
invariant-loop-n l = EachBelow (λ m s. (has l.label.words m && is_not l.name s) ≡ false) l.shapes l.from

abbrev pub decreases-loop-n : goal.decreases-loop-n
decreases-loop-n l = l.label.width - l.from
