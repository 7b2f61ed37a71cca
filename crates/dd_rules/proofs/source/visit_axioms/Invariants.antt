use Rattle.std.proofs.Common.{◌≡◌, take, flat_map}
use Rattle.dd_rules.specs.Sources.{parts_of_sides}
use Rattle.dd_rules.specs.Trees.{trees}
use Rattle.dd_rules.specs.Walks.{IsWalk, numbered, with_all}
use Rattle.dd_rules.proofs.source.visit_axioms.Given as goal

abbrev pub invariant-loop-a : goal.invariant-loop-a
invariant-loop-a l =
    (numbered (trees l.rows.keys) l.walk ≡ with_all (numbered (trees l.rows.keys) l.fn.walk) (flat_map (parts_of_sides (trees l.rows.keys)) (take l.a-index l.axioms))) × IsWalk (trees l.rows.keys) l.walk
