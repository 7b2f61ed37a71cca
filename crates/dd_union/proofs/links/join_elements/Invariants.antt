-- The links to the elements so far.
use Rattle.std.proofs.Common.{◌≡◌, ◌++◌}
use Rattle.std.specs.List.{flat_map, range_with_len}
use Rattle.dd_union.specs.Pieces.{joined}
use Rattle.dd_union.proofs.links.join_elements.Given as goal

abbrev pub invariant-loop-y : goal.invariant-loop-y
invariant-loop-y l = l.links ≡ l.initial.links ++ flat_map (joined l.rows l.from l.to l.onto l.set) (range_with_len 0 l.y)
