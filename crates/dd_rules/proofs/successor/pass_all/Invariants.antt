use Rattle.std.proofs.Common.{◌≡◌, ◌-◌}
use Rattle.dd_set.specs.Words.{has}
use Rattle.dd_rules.proofs.Passing.{IsPassedBelow}
use Rattle.dd_rules.proofs.successor.pass_all.Given as goal

abbrev pub invariant-loop-n : goal.invariant-loop-n
invariant-loop-n l = record {
  width : l.next.width ≡ l.initial.next.width;
  passed : IsPassedBelow l.shapes (has l.label.words) l.role (has l.initial.next.words) (has l.next.words) l.from;
}

abbrev pub decreases-loop-n : goal.decreases-loop-n
decreases-loop-n l = l.label.width - l.from
