-- The copies are those of the items so far.
use Rattle.std.proofs.Common.{◌≡◌, take}
use Rattle.dd_task.proofs.copies.copy_props.Given as goal

abbrev pub invariant-loop-p : goal.invariant-loop-p
invariant-loop-p l = l.copies ≡ take l.p-index l.props
