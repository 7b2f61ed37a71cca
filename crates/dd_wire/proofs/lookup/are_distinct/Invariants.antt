-- All are distinct if the rest are.
use Rattle.std.proofs.Common.{◌≡◌, drop}
use Rattle.dd_wire.specs.Placed.{are_distinct}
use Rattle.dd_wire.proofs.lookup.are_distinct.Given as goal

abbrev pub invariant-loop-i : goal.invariant-loop-i
invariant-loop-i l = are_distinct l.names ≡ are_distinct (drop l.i l.names)
