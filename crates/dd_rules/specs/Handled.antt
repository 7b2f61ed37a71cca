-- How far a walk over a label has come: the numbers that were handled and what they force, and the names that were marked.
use Rattle.std.specs.Prelude.{ℕ, ◌%◌, ◌≡◌, Bool, true, List, slice_get, Option, Some}
use Rattle.std.specs.List.{list_any, list_all}
use Rattle.dd_rules.specs.declared.shape.Shape.{Shape}
use Rattle.dd_rules.specs.declared.shape.Shape.TheVariants as shape
use Rattle.dd_rules.specs.declared.tables.AxiomNumbers.{AxiomNumbers}
use Rattle.dd_rules.specs.Index.{is_named, is_among}
use Rattle.dd_rules.specs.Least.{Implies}
use Rattle.dd_rules.specs.Numbers.{Rules, has_all, has_joined, keeps_axiom}

-- the label has all that is forced by the handled numbers alone, which it has
pub record IsHandled (r : Rules) (label handled : ℕ → Bool) : Type 0 where
  pub within : Implies handled label
  pub ands : (n a b : ℕ) → slice_get r.shapes n ≡ Some (shape.And a b) → handled n ≡ true → (label a ≡ true) × (label b ≡ true)
  pub rights : (k : ℕ) (a : AxiomNumbers) → slice_get r.axioms k ≡ Some a → has_joined handled a.joined ≡ true → label a.right ≡ true

-- the second label has what the number n forces in the first one
pub record IsHandledAt (r : Rules) (n : ℕ) (old new : ℕ → Bool) : Type 0 where
  pub ands : (a b : ℕ) → slice_get r.shapes n ≡ Some (shape.And a b) → (new a ≡ true) × (new b ≡ true)
  pub rights : (k : ℕ) (a : AxiomNumbers) (names : List (Option ℕ)) → slice_get r.axioms k ≡ Some a → a.joined ≡ Some names → list_any (is_named n) names ≡ true
      → has_all old names ≡ true → new a.right ≡ true

-- the second label has what the first has and the right sides of the axioms with these numbers whose names the first has, and
-- nothing that the axioms do not force
pub record IsFired (axioms : List AxiomNumbers) (ks : List ℕ) (old new : ℕ → Bool) : Type 0 where
  pub above : Implies old new
  pub fired : (k : ℕ) (a : AxiomNumbers) → is_among ks k ≡ true → slice_get axioms k ≡ Some a → has_joined old a.joined ≡ true → new a.right ≡ true
  pub least : (other : ℕ → Bool) → Implies old other → list_all (keeps_axiom other) axioms ≡ true → Implies new other

-- each name whose complement the label has is marked, by its number modulo that of the marks
abbrev pub IsMarked : List Shape → (ℕ → Bool) → (ℕ → Bool) → Type 0
IsMarked shapes label marks = (n a : ℕ) → slice_get shapes n ≡ Some (shape.Not a) → label n ≡ true → marks (a % 65536) ≡ true
