use Rattle.std.proofs.Common.{◌≡◌, take, map}
use Rattle.dd_tests.specs.Versions.{rule_of}
use Rattle.dd_tests.proofs.versions.rules.Given as goal

abbrev pub invariant-loop-from : goal.invariant-loop-from
invariant-loop-from l = l.rules ≡ map rule_of (take l.from-index l.sides)
