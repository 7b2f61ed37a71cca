-- The copies are those of the propagations so far.
use Rattle.std.proofs.Common.{◌≡◌, take}
use Rattle.dd_run.proofs.spent.props_of.Given as goal

abbrev pub invariant-loop-p : goal.invariant-loop-p
invariant-loop-p l = l.copies ≡ take l.p-index l.view
