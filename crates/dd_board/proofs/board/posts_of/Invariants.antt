-- The posts of the sessions so far.
use Rattle.dd_board.proofs.Boarding.{IsSummed}
use Rattle.dd_board.proofs.board.posts_of.Given as goal

abbrev pub invariant-loop-s : goal.invariant-loop-s
invariant-loop-s l = IsSummed l.sessions l.s-index l.posts
