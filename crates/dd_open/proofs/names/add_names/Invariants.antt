use Rattle.std.proofs.Common.{◌≡◌, ◌++◌, map, drop}
use Rattle.dd_rules.specs.Numbers.{shape_of}
use Rattle.dd_open.specs.Builds.{name_pairs}
use Rattle.dd_open.proofs.names.add_names.Given as goal

abbrev pub invariant-loop-n : goal.invariant-loop-n
invariant-loop-n l = l.names.items ++ name_pairs (map (shape_of l.compiled.concepts) l.compiled.concepts) (drop l.n-index l.numbers) l.x
    ≡ l.fn.names.items ++ name_pairs (map (shape_of l.compiled.concepts) l.compiled.concepts) l.numbers l.x
