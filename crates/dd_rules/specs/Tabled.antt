-- When tables are those of a peer.
use Rattle.std.specs.Prelude.{◌≡◌, ◌≤◌, true, [], length, map}
use Rattle.dd_concept.specs.Closed.{IsClosedFor}
use Rattle.dd_rules.specs.Closure.{are_distinct}
use Rattle.dd_rules.specs.Compiled.{Closure}
use Rattle.dd_rules.specs.Numbers.{axiom_numbers, joined_of, shape_of}
use Rattle.dd_rules.specs.Tables.{Numbered}

-- the concepts are distinct and closed, and the tables have their forms, the axioms by numbers, and the names of each concept
-- that is a conjunction of names
pub record IsTabled (closure : Closure) (t : Numbered) : Type 0 where
  pub few : length closure.concepts ≤ 4096
  pub distinct : are_distinct closure.concepts ≡ true
  pub closed : IsClosedFor closure.axioms [] closure.concepts
  pub shapes : t.shapes ≡ map (shape_of closure.concepts) closure.concepts
  pub axioms : t.axioms ≡ map (axiom_numbers closure.concepts) closure.axioms
  pub joined : t.joined ≡ map (joined_of closure.concepts) closure.concepts
