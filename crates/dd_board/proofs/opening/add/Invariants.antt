-- The keys so far have tasks.
use Rattle.std.proofs.Common.{◌≡◌, take}
use Rattle.dd_board.specs.Settling.{with_slots}
use Rattle.dd_board.proofs.opening.add.Given as goal

abbrev pub invariant-loop-key : goal.invariant-loop-key
invariant-loop-key l = l.tasks ≡ with_slots l.initial.tasks (take l.key-index l.keys)
