-- The subconcepts of a concept, in order.
use Rattle.std.specs.Prelude.{◌++◌, List, [], ◌∷◌}
use Rattle.dd_concept.specs.declared.concept.Concept.{Concept}
use Rattle.dd_concept.specs.declared.concept.Concept.TheOpen.{Concept-F}
use Rattle.dd_concept.specs.declared.concept.Concept.TheFolds.{fold-Concept}
use Rattle.dd_concept.specs.declared.concept.Concept.TheVariants.{Top, Bottom, Name, Not, And, Or, HasSome, HasAll}

-- a concept and its subconcepts, given those of its parts: the whole before its parts and the left part before the right, as
-- in the text. A Not has itself alone.
abbrev pub with_parts_at : Concept-F (Concept × List Concept) → Concept × List Concept
with_parts_at Concept-F.Top = (Top, Top ∷ [])
with_parts_at Concept-F.Bottom = (Bottom, Bottom ∷ [])
with_parts_at (Concept-F.Name a) = (Name a, Name a ∷ [])
with_parts_at (Concept-F.Not c) = (Not c.0, Not c.0 ∷ [])
with_parts_at (Concept-F.And c d) = (And c.0 d.0, And c.0 d.0 ∷ (c.1 ++ d.1))
with_parts_at (Concept-F.Or c d) = (Or c.0 d.0, Or c.0 d.0 ∷ (c.1 ++ d.1))
with_parts_at (Concept-F.HasSome r c) = (HasSome r c.0, HasSome r c.0 ∷ c.1)
with_parts_at (Concept-F.HasAll r c) = (HasAll r c.0, HasAll r c.0 ∷ c.1)

unfoldable pub with_parts : Concept → Concept × List Concept
with_parts = fold-Concept (Concept × List Concept) with_parts_at

-- the subconcepts of a concept, itself among them, in the order of the text
abbrev pub parts_in_order : Concept → List Concept
parts_in_order c = (with_parts c).1
