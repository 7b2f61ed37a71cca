-- The copies so far.
use Rattle.std.proofs.Common.{◌≡◌, take}
use Rattle.dd_board.proofs.taking.copy_view.Given as goal

abbrev pub invariant-loop-p : goal.invariant-loop-p
invariant-loop-p l = l.copies ≡ take l.p-index l.props
