use Rattle.std.proofs.Common.{◌≡◌, drop}
use Rattle.dd_graph.specs.Trail.{first_free}
use Rattle.dd_graph.proofs.confirm.first_unranked.Given as goal

abbrev pub invariant-loop-t : goal.invariant-loop-t
invariant-loop-t l = first_free l.entries l.ids ≡ first_free l.entries (drop l.t-index l.ids)
