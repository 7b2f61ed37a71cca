-- The flags of the first tasks are right.
use Rattle.dd_board.proofs.Marked.{AreRenewed}
use Rattle.dd_board.proofs.flags.renew_due.Given as goal

abbrev pub invariant-loop-k : goal.invariant-loop-k
invariant-loop-k l = AreRenewed l.initial.s l.s l.k
