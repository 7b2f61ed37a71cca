-- Where an axiom is looked up: at the number of each name of its left side, and apart where there is none.
use Rattle.std.specs.Prelude.{ℕ, ◌≡◌, ◌<◌, ◌==◌, Bool, true, false, List, [], length, slice_get, Option, None, Some}
use Rattle.std.specs.List.{list_any, slice_index_or}
use Rattle.dd_rules.specs.declared.tables.AxiomNumbers.{AxiomNumbers}

-- is the number among these
abbrev pub is_among : List ℕ → ℕ → Bool
is_among numbers k = list_any (λ n. n == k) numbers

-- is this name the number
abbrev pub is_named : ℕ → Option ℕ → Bool
is_named n (Some m) = m == n
is_named n None = false

-- each axiom is listed at the number of each of its names, and those without a name are listed apart
pub record IsIndex (axioms : List AxiomNumbers) (index : List (List ℕ)) (plain : List ℕ) : Type 0 where
  pub named : (k n : ℕ) (a : AxiomNumbers) (names : List (Option ℕ)) → slice_get axioms k ≡ Some a → a.joined ≡ Some names → list_any (is_named n) names ≡ true
      → n < length index → is_among (slice_index_or index n []) k ≡ true
  pub unnamed : (k : ℕ) (a : AxiomNumbers) → slice_get axioms k ≡ Some a → a.joined ≡ Some [] → is_among plain k ≡ true

-- each list has what it had
abbrev pub Lists : List (List ℕ) → List (List ℕ) → Type 0
Lists old new = (n k : ℕ) → is_among (slice_index_or old n []) k ≡ true → is_among (slice_index_or new n []) k ≡ true

-- all that is among the first numbers is among the second ones
abbrev pub Among : List ℕ → List ℕ → Type 0
Among old new = (k : ℕ) → is_among old k ≡ true → is_among new k ≡ true
