use Rattle.std.proofs.Common.{◌≡◌, take, flat_map}
use Rattle.dd_rules.specs.Sources.{parts_of_row}
use Rattle.dd_rules.specs.Trees.{trees}
use Rattle.dd_rules.specs.Walks.{IsWalk, numbered, with_all}
use Rattle.dd_rules.proofs.source.visit_extra.Given as goal

abbrev pub invariant-loop-n : goal.invariant-loop-n
invariant-loop-n l =
    (numbered (trees l.rows.keys) l.walk ≡ with_all (numbered (trees l.rows.keys) l.fn.walk) (flat_map (parts_of_row (trees l.rows.keys)) (take l.n-index l.extra))) × IsWalk (trees l.rows.keys) l.walk
