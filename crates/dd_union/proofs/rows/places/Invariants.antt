-- The places among the rows so far.
use Rattle.std.proofs.Common.{◌≡◌, false, take}
use Rattle.dd_task.specs.Tables.{places_of}
use Rattle.dd_union.proofs.rows.places.Given as goal

abbrev pub invariant-loop-k : goal.invariant-loop-k
invariant-loop-k l = l.places ≡ places_of false l.y (take l.k l.rows)
