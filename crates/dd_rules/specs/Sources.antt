-- The concepts that a closure comes from, as rows.
use Rattle.std.specs.Prelude.{ℕ, ◌≡◌, ◌<◌, ◌++◌, List, [], ◌∷◌, flat_map, slice_get, Some}
use Rattle.dd_concept.specs.declared.concept.Axiom.{Axiom}
use Rattle.dd_concept.specs.declared.concept.Concept.{Concept}
use Rattle.dd_concept.specs.Normal.{nnf_of, nnf_not_of}
use Rattle.dd_concept.specs.Parts.{parts_in_order}
use Rattle.dd_rules.specs.Compiled.{concept_at}
use Rattle.dd_rules.specs.Trees.{IsRows, trees}
use Rattle.dd_rules.specs.declared.source.AxiomRows.{AxiomRows}
use Rattle.dd_rules.specs.declared.source.Sources.{Sources}

-- the two lists are equally long, and items at one place belong together
abbrev pub Pairs : {A B : Type 0} → (A → B → Type 0) → List A → List B → Type 0
Pairs P [] [] = Unit {0}
Pairs P (x ∷ xs) (y ∷ ys) = P x y × Pairs P xs ys
Pairs P _ _ = ⊥

-- the axiom whose sides stand at the first two numbers
abbrev pub axiom_by : List Concept → AxiomRows → Axiom
axiom_by trees s = record { left = concept_at trees s.left; right = concept_at trees s.right }

-- the concept stands at the number
abbrev pub IsConceptRow : List Concept → Concept → ℕ → Type 0
IsConceptRow trees c n = slice_get trees n ≡ Some c

-- the axiom's sides stand at the first two numbers, and what it adds to a label at the others
pub record IsAxiomRow (trees : List Concept) (a : Axiom) (s : AxiomRows) : Type 0 where
  pub left : slice_get trees s.left ≡ Some a.left
  pub right : slice_get trees s.right ≡ Some a.right
  pub not_left : slice_get trees s.not_left ≡ Some (nnf_not_of a.left)
  pub normal_right : slice_get trees s.normal_right ≡ Some (nnf_of a.right)

-- the rows have the axioms and the further concepts
pub record IsSources (as' : List Axiom) (cs : List Concept) (s : Sources) : Type 0 where
  pub rows : IsRows s.rows.keys
  pub axioms : Pairs (IsAxiomRow (trees s.rows.keys)) as' s.axioms.items
  pub extra : Pairs (IsConceptRow (trees s.rows.keys)) cs s.extra.items

-- the subconcepts of what an axiom adds to a label
abbrev pub parts_of_sides : List Concept → AxiomRows → List Concept
parts_of_sides trees s = parts_in_order (concept_at trees s.not_left) ++ parts_in_order (concept_at trees s.normal_right)

abbrev pub parts_of_row : List Concept → ℕ → List Concept
parts_of_row trees n = parts_in_order (concept_at trees n)

-- the subconcepts of all
abbrev pub parts_of_all : List Concept → List AxiomRows → List ℕ → List Concept
parts_of_all trees axioms extra = flat_map (parts_of_sides trees) axioms ++ flat_map (parts_of_row trees) extra

-- what an axiom adds to a label is below the number
pub record AreSidesBelow (n : ℕ) (s : AxiomRows) : Type 0 where
  pub not_left : s.not_left < n
  pub normal_right : s.normal_right < n
