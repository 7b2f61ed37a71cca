-- The labels so far.
use Rattle.std.proofs.Common.{◌≡◌, take}
use Rattle.dd_run.specs.Numbers.{with_width}
use Rattle.dd_run.proofs.spent.labels_of.Given as goal

abbrev pub invariant-loop-id : goal.invariant-loop-id
invariant-loop-id l = l.labels ≡ with_width l.table.width (take l.id l.table.list)
