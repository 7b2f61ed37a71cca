use Rattle.std.proofs.Common.{◌≡◌}
use Rattle.dd_tests.proofs.labels_of_rules.put.Given as goal

abbrev pub invariant-loop-n : goal.invariant-loop-n
invariant-loop-n l = l.label.width ≡ l.initial.label.width
