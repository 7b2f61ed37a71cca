-- The concepts of a closure as rows, each with its number.
use Rattle.std.specs.Prelude.{ℕ, ◌≡◌, ◌<◌, ◌≤◌, true, false, Bool, List, [], ◌++◌, length, map, slice_get, Option, None, Some}
use Rattle.dd_concept.specs.declared.concept.Concept.{Concept}
use Rattle.dd_concept.specs.Closed.{IsClosedFor}
use Rattle.dd_concept.specs.Normal.{IsNormal, nnf_of, nnf_not_of}
use Rattle.dd_concept.specs.Same.{has}
use Rattle.dd_rules.specs.Closure.{are_distinct}
use Rattle.dd_rules.specs.Compiled.{Closure, concept_at}
use Rattle.dd_rules.specs.Numbers.{number_of, joined_of}
use Rattle.dd_rules.specs.Sources.{axiom_by}
use Rattle.dd_rules.specs.Trees.{IsRows, trees}
use Rattle.dd_rules.specs.Walks.{concepts_in}
use Rattle.dd_rules.specs.declared.row.Row.{Row}
use Rattle.dd_rules.specs.declared.source.AxiomRows.{AxiomRows}

-- the concepts of the rows in their order, and the axioms of the rows
abbrev pub closure_by : List Row → List ℕ → List AxiomRows → Closure
closure_by rows order axioms = record { concepts = concepts_in (trees rows) order; axioms = map (axiom_by (trees rows)) axioms }

-- the numbers are those of rows, and the last two are of what the axiom of the first two adds to a label
pub record AreSides (trees : List Concept) (s : AxiomRows) : Type 0 where
  pub left : s.left < length trees
  pub right : s.right < length trees
  pub not_left : s.not_left < length trees
  pub normal_right : s.normal_right < length trees
  pub left_is : concept_at trees s.not_left ≡ nnf_not_of (concept_at trees s.left)
  pub right_is : concept_at trees s.normal_right ≡ nnf_of (concept_at trees s.right)

-- The concepts are few, distinct, closed and in normal form, and each row has the number of its concept, if it has one.
pub record IsClosure (rows : List Row) (order : List ℕ) (numbers : List (Option ℕ)) (axioms : List AxiomRows) : Type 0 where
  pub rows_are : IsRows rows
  pub numbers_are : numbers ≡ map (number_of (concepts_in (trees rows) order)) (trees rows)
  pub within : (k n : ℕ) → slice_get order k ≡ Some n → n < length (trees rows)
  pub few : length order ≤ 4096
  pub distinct : are_distinct (concepts_in (trees rows) order) ≡ true
  pub closed : IsClosedFor (map (axiom_by (trees rows)) axioms) [] (concepts_in (trees rows) order)
  pub normal : (c : Concept) → has (concepts_in (trees rows) order) c ≡ true → IsNormal c
  pub sides : (k : ℕ) (s : AxiomRows) → slice_get axioms k ≡ Some s → AreSides (trees rows) s

-- the numbers that were put behind a list are those of the concept's names, where it is a conjunction of names
abbrev pub IsCollected : List Concept → Concept → List (Option ℕ) → List (Option ℕ) → Bool → Type 0
IsCollected concepts c old new true = (more : List (Option ℕ)) × (joined_of concepts c ≡ Some more) × (new ≡ old ++ more)
IsCollected concepts c old new false = joined_of concepts c ≡ None
