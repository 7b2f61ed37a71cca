-- The sources of the peer's rules so far are there.
use Rattle.std.proofs.Common.{◌≡◌, ◌++◌, map, take}
use Rattle.dd_concept.specs.Normal.{nnf_of}
use Rattle.dd_peer.specs.declared.version.Rule.{Rule}
use Rattle.dd_peer.specs.Rules.{rules_from}
use Rattle.dd_task.proofs.extra.push_sources.Given as goal

abbrev pub invariant-loop-rule : goal.invariant-loop-rule
invariant-loop-rule l = l.extra ≡ l.initial.extra ++ map (λ (r : Rule). nnf_of r.source) (rules_from (take l.rule-index l.rules) l.from)
