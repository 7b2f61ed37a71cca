use Rattle.std.proofs.Common.{◌≡◌, map, take}
use Rattle.dd_rules.specs.Numbers.{axiom_numbers}
use Rattle.dd_rules.proofs.concepts.Concepts.axioms.Given as goal

abbrev pub invariant-loop-s : goal.invariant-loop-s
invariant-loop-s l = l.list.items ≡ map (axiom_numbers l.self.concepts) (take l.s-index l.self.axioms)
