-- The walk that numbers the concepts of a closure, each whole before its parts, over the rows of the concepts.
use Rattle.std.specs.Prelude.{ℕ, ◌≡◌, ◌<◌, ◌++◌, Bool, true, if◌then◌else◌, List, [], ◌∷◌, fold, length, map, slice_get, Option, Some}
use Rattle.dd_concept.specs.declared.concept.Concept.{Concept}
use Rattle.dd_concept.specs.Same.{has, is_within}
use Rattle.dd_concept.specs.Parts.{parts_in_order}
use Rattle.dd_rules.specs.Compiled.{concept_at}
use Rattle.dd_rules.specs.Numbers.{number_of}
use Rattle.dd_rules.specs.declared.row.Row.{Row}
use Rattle.dd_rules.specs.declared.row.Row.TheVariants as row
use Rattle.dd_rules.specs.declared.walk.Walk.{Walk}

-- the list with the concept behind it, where that is not there
abbrev pub with_one : List Concept → Concept → List Concept
with_one xs c = if has xs c then xs else xs ++ c ∷ []

-- the list with those of the second behind it that are not there, each at its first place
abbrev pub with_all : List Concept → List Concept → List Concept
with_all xs cs = fold with_one xs cs

-- the concepts at these numbers of rows
abbrev pub concepts_in : List Concept → List ℕ → List Concept
concepts_in trees order = map (concept_at trees) order

-- the concepts that were numbered so far
abbrev pub numbered : List Concept → Walk → List Concept
numbered trees w = concepts_in trees w.order.items

-- the subconcepts of a row's concept beside itself, in the order of the text
abbrev pub parts_below : List Concept → Row → List Concept
parts_below trees (row.And l k) = parts_in_order (concept_at trees l) ++ parts_in_order (concept_at trees k)
parts_below trees (row.Or l k) = parts_in_order (concept_at trees l) ++ parts_in_order (concept_at trees k)
parts_below trees (row.HasSome s l) = parts_in_order (concept_at trees l)
parts_below trees (row.HasAll s l) = parts_in_order (concept_at trees l)
parts_below trees _ = []

-- What a walk knows: for each row the number of its concept, if it has one, and whether all of its subconcepts have one.
pub record IsWalkOf (trees : List Concept) (order : List ℕ) (numbers : List (Option ℕ)) (done : List Bool) : Type 0 where
  pub numbers_are : numbers ≡ map (number_of (concepts_in trees order)) trees
  pub sized : length done ≡ length trees
  pub done_are : (i : ℕ) → slice_get done i ≡ Some true → is_within (parts_in_order (concept_at trees i)) (concepts_in trees order) ≡ true
  pub within : (k n : ℕ) → slice_get order k ≡ Some n → n < length trees

abbrev pub IsWalk : List Concept → Walk → Type 0
IsWalk trees w = IsWalkOf trees w.order.items w.numbers.items w.done.items
