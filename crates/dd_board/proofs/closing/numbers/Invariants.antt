-- The numbers so far.
use Rattle.std.proofs.Common.{◌≡◌, take, map}
use Rattle.dd_board.specs.Moved.{moved_number}
use Rattle.dd_board.proofs.closing.numbers.Given as goal

abbrev pub invariant-loop-n : goal.invariant-loop-n
invariant-loop-n l = l.moved ≡ map (moved_number l.view l.count) (take l.n-index l.ns)
