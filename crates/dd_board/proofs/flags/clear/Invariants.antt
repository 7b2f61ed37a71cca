-- The first tasks have no mark.
use Rattle.dd_board.proofs.Marked.{AreClear}
use Rattle.dd_board.proofs.flags.clear.Given as goal

abbrev pub invariant-loop-k : goal.invariant-loop-k
invariant-loop-k l = AreClear l.initial.tasks l.tasks l.k
