-- Those of the rules so far.
use Rattle.std.proofs.Common.{◌≡◌, take}
use Rattle.dd_board.specs.Steps.{needed}
use Rattle.dd_board.proofs.closing.needed_of.Given as goal

abbrev pub invariant-loop-k : goal.invariant-loop-k
invariant-loop-k l = l.kept ≡ needed l.p l.from l.to l.label (take l.k-index l.set)
