-- The targets of the rules so far are there.
use Rattle.std.proofs.Common.{◌≡◌, ◌++◌, take}
use Rattle.std.specs.List.{flat_map}
use Rattle.dd_task.specs.Closure.{both_targets}
use Rattle.dd_task.proofs.extra.push_targets.Given as goal

abbrev pub invariant-loop-rule : goal.invariant-loop-rule
invariant-loop-rule l = l.extra ≡ l.initial.extra ++ flat_map both_targets (take l.rule-index l.rules)
