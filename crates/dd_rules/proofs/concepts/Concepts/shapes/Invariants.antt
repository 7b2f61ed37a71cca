use Rattle.std.proofs.Common.{◌≡◌, map, take}
use Rattle.dd_rules.specs.Numbers.{shape_of}
use Rattle.dd_rules.proofs.concepts.Concepts.shapes.Given as goal

abbrev pub invariant-loop-n : goal.invariant-loop-n
invariant-loop-n l = l.list.items ≡ map (shape_of l.self.concepts) (take l.n-index l.self.concepts)
