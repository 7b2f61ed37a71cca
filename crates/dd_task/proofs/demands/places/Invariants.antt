-- The places among the rows so far.
use Rattle.std.proofs.Common.{◌≡◌, take}
use Rattle.dd_task.specs.Tables.{places_of}
use Rattle.dd_task.proofs.demands.places.Given as goal

abbrev pub invariant-loop-k : goal.invariant-loop-k
invariant-loop-k l = l.places ≡ places_of l.wanted l.x (take l.k l.rows)
