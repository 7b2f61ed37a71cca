-- What is found among all rules is found among the rest.
use Rattle.std.proofs.Common.{◌≡◌, ◌≤◌, drop}
use Rattle.dd_peer.specs.Rules.{rules_from}
use Rattle.dd_check.specs.Walked.{any_no_source_from}
use Rattle.dd_check.proofs.bridge.any_no_source.Given as goal

abbrev pub invariant-loop-rule : goal.invariant-loop-rule
invariant-loop-rule l =
    (l.position ≤ l.rule-index)
    × (any_no_source_from l.into_set l.c 0 (rules_from l.rules l.from) ≡ any_no_source_from l.into_set l.c l.position (rules_from (drop l.rule-index l.rules) l.from))
