-- How large a concept is.
use Rattle.std.specs.Prelude.{ℕ, ◌+◌, max}
use Rattle.dd_concept.specs.declared.concept.Concept.{Concept}
use Rattle.dd_concept.specs.declared.concept.Concept.TheOpen.{Concept-F}
use Rattle.dd_concept.specs.declared.concept.Concept.TheFolds.{fold-Concept}

-- the nodes of a concept, given those of its parts: a role is no node
abbrev pub node_count_at : Concept-F ℕ → ℕ
node_count_at Concept-F.Top = 1
node_count_at Concept-F.Bottom = 1
node_count_at (Concept-F.Name a) = 1
node_count_at (Concept-F.Not c) = c + 1
node_count_at (Concept-F.And c d) = c + d + 1
node_count_at (Concept-F.Or c d) = c + d + 1
node_count_at (Concept-F.HasSome r c) = c + 1
node_count_at (Concept-F.HasAll r c) = c + 1

-- the number of nodes of a concept
abbrev pub node_count : Concept → ℕ
node_count = fold-Concept ℕ node_count_at

-- the depth of a concept, given those of its parts: 1 more than the deepest
abbrev pub depth_at : Concept-F ℕ → ℕ
depth_at Concept-F.Top = 1
depth_at Concept-F.Bottom = 1
depth_at (Concept-F.Name a) = 1
depth_at (Concept-F.Not c) = c + 1
depth_at (Concept-F.And c d) = max c d + 1
depth_at (Concept-F.Or c d) = max c d + 1
depth_at (Concept-F.HasSome r c) = c + 1
depth_at (Concept-F.HasAll r c) = c + 1

-- the nodes on the longest way down through a concept
abbrev pub depth_of : Concept → ℕ
depth_of = fold-Concept ℕ depth_at
