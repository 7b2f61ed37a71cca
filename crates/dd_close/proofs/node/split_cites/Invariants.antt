use Rattle.dd_graph.specs.View.{view_of}
use Rattle.dd_set.specs.Words.{has}
use Rattle.dd_close.specs.Nodes.{Splits}
use Rattle.dd_close.proofs.node.split_cites.Given as goal

abbrev pub invariant-loop-i : goal.invariant-loop-i
invariant-loop-i l = Splits (view_of l.g) l.initial.book l.book (has l.set.words) l.step l.cites l.i
