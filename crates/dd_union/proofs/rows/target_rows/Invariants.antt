-- The rows of the peer's rules so far.
use Rattle.std.proofs.Common.{◌≡◌, map, take}
use Rattle.dd_peer.specs.Rules.{rules_from}
use Rattle.dd_task.specs.Tables.{row_at}
use Rattle.dd_union.proofs.rows.target_rows.Given as goal

abbrev pub invariant-loop-rule : goal.invariant-loop-rule
invariant-loop-rule l = l.rows ≡ map (row_at l.m l.elements) (rules_from (take l.rule-index l.rules) l.from)
