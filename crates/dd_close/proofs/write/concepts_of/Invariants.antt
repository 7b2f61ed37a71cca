use Rattle.std.proofs.Common.{◌≡◌, map, take}
use Rattle.dd_graph.specs.View.{view_of}
use Rattle.dd_rules.specs.Compiled.{concept_at}
use Rattle.dd_close.proofs.write.concepts_of.Given as goal

abbrev pub invariant-loop-n : goal.invariant-loop-n
invariant-loop-n l = l.concepts ≡ map (concept_at (view_of l.g).closure.concepts) (take l.n-index l.ns)
