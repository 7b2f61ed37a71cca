-- The copies are those of the items so far.
use Rattle.std.proofs.Common.{◌≡◌, take}
use Rattle.dd_task.proofs.copies.copy_goals.Given as goal

abbrev pub invariant-loop-g : goal.invariant-loop-g
invariant-loop-g l = l.copies ≡ take l.g-index l.goals
