use Rattle.std.proofs.Common.{◌≡◌}
use Rattle.dd_tests.proofs.bodies.force.Given as goal

abbrev pub invariant-loop : goal.invariant-loop
invariant-loop l = l.label.width ≡ l.initial.label.width
