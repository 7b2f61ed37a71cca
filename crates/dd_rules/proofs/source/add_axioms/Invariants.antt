use Rattle.std.proofs.Common.{take}
use Rattle.dd_rules.proofs.Pairing.{AddsAxioms}
use Rattle.dd_rules.proofs.source.add_axioms.Given as goal

abbrev pub invariant-loop-a : goal.invariant-loop-a
invariant-loop-a l = AddsAxioms l.rows.keys (take l.a-index l.axioms) l.list.items
