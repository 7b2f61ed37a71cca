-- The numbers so far.
use Rattle.std.proofs.Common.{◌≡◌, take, map}
use Rattle.dd_board.specs.Settling.{place_in}
use Rattle.dd_board.proofs.opening.numbers_of.Given as goal

abbrev pub invariant-loop-key : goal.invariant-loop-key
invariant-loop-key l = l.numbers ≡ map (place_in l.tasks) (take l.key-index l.keys)
