-- So far they are the same.
use Rattle.std.proofs.Common.{◌≡◌, take}
use Rattle.dd_board.proofs.holding.difference.Given as goal

abbrev pub invariant-loop-k : goal.invariant-loop-k
invariant-loop-k l = take l.k l.props ≡ take l.k l.view
