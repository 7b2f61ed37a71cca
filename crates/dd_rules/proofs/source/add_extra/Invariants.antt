use Rattle.std.proofs.Common.{take}
use Rattle.dd_rules.proofs.Pairing.{AddsExtra}
use Rattle.dd_rules.proofs.source.add_extra.Given as goal

abbrev pub invariant-loop-c : goal.invariant-loop-c
invariant-loop-c l = AddsExtra l.fn.rows.keys l.rows.keys (take l.c-index l.extra) l.list.items
