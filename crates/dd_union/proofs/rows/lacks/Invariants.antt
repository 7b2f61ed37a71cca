-- The lists of the elements so far.
use Rattle.std.proofs.Common.{◌≡◌, false, map}
use Rattle.std.specs.List.{range_with_len}
use Rattle.dd_task.specs.Tables.{places_of}
use Rattle.dd_union.proofs.rows.lacks.Given as goal

abbrev pub invariant-loop-y : goal.invariant-loop-y
invariant-loop-y l = l.lacks ≡ map (λ y. places_of false y l.rows) (range_with_len 0 l.y)
