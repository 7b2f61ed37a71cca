-- The copies so far.
use Rattle.std.proofs.Common.{◌≡◌, take}
use Rattle.dd_board.proofs.closing.copy_label.Given as goal

abbrev pub invariant-loop-c : goal.invariant-loop-c
invariant-loop-c l = l.copies ≡ take l.c-index l.concepts
