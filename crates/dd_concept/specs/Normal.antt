-- The negation normal form: Not stands on names alone.
use Rattle.std.specs.Prelude.{◌≤◌, Bool, true, false, ◌&&◌, IsTrue}
use Rattle.dd_concept.specs.declared.concept.Concept.{Concept}
use Rattle.dd_concept.specs.declared.concept.Concept.TheOpen.{Concept-F}
use Rattle.dd_concept.specs.declared.concept.Concept.TheFolds.{fold-Concept}
use Rattle.dd_concept.specs.declared.concept.Concept.TheVariants.{Top, Bottom, Name, Not, And, Or, HasSome, HasAll}
use Rattle.dd_concept.specs.Counts.{node_count, depth_of}
use Rattle.dd_concept.specs.Sizes.{most_nodes, most_depth, most_normal_nodes, most_normal_depth}

-- the normal forms of a concept and of its complement, given those of its parts
abbrev pub normal_at : Concept-F (Concept × Concept) → Concept × Concept
normal_at Concept-F.Top = (Top, Bottom)
normal_at Concept-F.Bottom = (Bottom, Top)
normal_at (Concept-F.Name a) = (Name a, Not (Name a))
normal_at (Concept-F.Not c) = (c.1, c.0)
normal_at (Concept-F.And c d) = (And c.0 d.0, Or c.1 d.1)
normal_at (Concept-F.Or c d) = (Or c.0 d.0, And c.1 d.1)
normal_at (Concept-F.HasSome r c) = (HasSome r c.0, HasAll r c.1)
normal_at (Concept-F.HasAll r c) = (HasAll r c.0, HasSome r c.1)

-- the normal forms of a concept and of its complement
abbrev pub normal : Concept → Concept × Concept
normal = fold-Concept (Concept × Concept) normal_at

-- the normal form of a concept
abbrev pub nnf_of : Concept → Concept
nnf_of c = (normal c).0

-- the normal form of a concept's complement
abbrev pub nnf_not_of : Concept → Concept
nnf_not_of c = (normal c).1

-- is a concept a name, and does each Not in it stand on a name, given the same of its parts
abbrev pub stands_at : Concept-F (Bool × Bool) → Bool × Bool
stands_at Concept-F.Top = (false, true)
stands_at Concept-F.Bottom = (false, true)
stands_at (Concept-F.Name a) = (true, true)
stands_at (Concept-F.Not c) = (false, c.0)
stands_at (Concept-F.And c d) = (false, c.1 && d.1)
stands_at (Concept-F.Or c d) = (false, c.1 && d.1)
stands_at (Concept-F.HasSome r c) = (false, c.1)
stands_at (Concept-F.HasAll r c) = (false, c.1)

-- is a concept a name, and does each Not in it stand on a name
abbrev pub stands : Concept → Bool × Bool
stands = fold-Concept (Bool × Bool) stands_at

-- each Not in the concept stands on a name
abbrev pub IsNormal : Concept → Type 0
IsNormal c = IsTrue ((stands c).1)

-- where the first is within the limits of requests, the second is within those of certificates
abbrev pub IsSmallFor : Concept → Concept → Type 0
IsSmallFor c d = node_count c ≤ most_nodes → depth_of c ≤ most_depth → (node_count d ≤ most_normal_nodes) × (depth_of d ≤ most_normal_depth)
