use Rattle.std.proofs.Common.{◌≡◌, drop, map}
use Rattle.dd_graph.specs.Trail.{with_all}
use Rattle.dd_graph.proofs.confirm.add_seconds.Given as goal

abbrev pub invariant-loop-pair : goal.invariant-loop-pair
invariant-loop-pair l = record {
  bound : l.list.bound ≡ l.fn.list.bound;
  list : with_all l.fn.list.list (map (λ p. p.1) l.pairs) ≡ with_all l.list.list (map (λ p. p.1) (drop l.pair-index l.pairs));
}
