use Rattle.std.proofs.Common.{◌≡◌, ◌-◌, false}
use Rattle.dd_set.specs.Words.{has}
use Rattle.dd_rules.specs.Numbers.{clashes_at}
use Rattle.dd_rules.specs.Tables.{shape_rules}
use Rattle.dd_rules.proofs.Walks.{EachBelow}
use Rattle.dd_rules.proofs.clash.marked_clash.Given as goal

abbrev pub invariant-loop-n : goal.invariant-loop-n
invariant-loop-n l = EachBelow (λ m s. clashes_at (shape_rules l.shapes) (has l.label.words) m s ≡ false) l.shapes l.from

abbrev pub decreases-loop-n : goal.decreases-loop-n
decreases-loop-n l = l.label.width - l.from
