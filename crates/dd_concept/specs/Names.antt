-- Which names and roles stand in a concept.
use Rattle.std.specs.Prelude.{ℕ, ◌++◌, List, [], ◌∷◌}
use Rattle.dd_concept.specs.declared.concept.Concept.{Concept}
use Rattle.dd_concept.specs.declared.concept.Concept.TheOpen.{Concept-F}
use Rattle.dd_concept.specs.declared.concept.Concept.TheFolds.{fold-Concept}

-- the names, given those of the parts
abbrev pub names_in_at : Concept-F (List ℕ) → List ℕ
names_in_at Concept-F.Top = []
names_in_at Concept-F.Bottom = []
names_in_at (Concept-F.Name a) = a ∷ []
names_in_at (Concept-F.Not c) = c
names_in_at (Concept-F.And c d) = c ++ d
names_in_at (Concept-F.Or c d) = c ++ d
names_in_at (Concept-F.HasSome r c) = c
names_in_at (Concept-F.HasAll r c) = c

-- the names of a concept in the order of its text, each as often as it stands there
abbrev pub names_in : Concept → List ℕ
names_in = fold-Concept (List ℕ) names_in_at

-- the roles, given those of the parts
abbrev pub roles_in_at : Concept-F (List ℕ) → List ℕ
roles_in_at Concept-F.Top = []
roles_in_at Concept-F.Bottom = []
roles_in_at (Concept-F.Name a) = []
roles_in_at (Concept-F.Not c) = c
roles_in_at (Concept-F.And c d) = c ++ d
roles_in_at (Concept-F.Or c d) = c ++ d
roles_in_at (Concept-F.HasSome r c) = r ∷ c
roles_in_at (Concept-F.HasAll r c) = r ∷ c

-- the roles of a concept in the order of its text, each as often as it stands there
abbrev pub roles_in : Concept → List ℕ
roles_in = fold-Concept (List ℕ) roles_in_at
