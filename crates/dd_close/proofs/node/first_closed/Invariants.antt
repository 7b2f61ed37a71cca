use Rattle.std.proofs.Common.{◌≡◌, drop}
use Rattle.std.specs.List.{list_any}
use Rattle.dd_graph.specs.Right.{is_below}
use Rattle.dd_graph.specs.View.{rank_of, view_of}
use Rattle.dd_close.proofs.node.first_closed.Given as goal

abbrev pub invariant-loop-pair : goal.invariant-loop-pair
invariant-loop-pair l = list_any (λ p. is_below l.bound (rank_of (view_of l.g) p.1)) l.to ≡ list_any (λ p. is_below l.bound (rank_of (view_of l.g) p.1)) (drop l.pair-index l.to)
