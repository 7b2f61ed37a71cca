use Rattle.dd_graph.proofs.order.+is_dead.Given as goal

abbrev pub decreases-is_dead : goal.decreases-is_dead
decreases-is_dead l = l.deep
