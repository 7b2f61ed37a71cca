-- For private clauses alone: the lists of an interpretation that is seen at some elements.
use Rattle.std.specs.Prelude.{◌≡◌, ℕ, ◌<◌, Bool, false, List, length, slice_index, All, Option, None, Some}
use Rattle.dd_set.specs.Words.{has}
use Rattle.dd_interp.specs.Meaning.{in_name, some_along}
use Rattle.dd_interp.specs.Places.{is_listed}

-- the places of both, and none where the first has no place
abbrev pub ArePlaces : List ℕ → ℕ → ℕ → Option (ℕ × ℕ) → Type 0
ArePlaces elements x y None = is_listed elements x ≡ false
ArePlaces elements x y (Some p) = (p.0 < length elements) × (slice_index elements p.0 ≡ x) × (p.1 < length elements) × (slice_index elements p.1 ≡ y)

-- a place is in a name where its element is
pub record AreNamesSeen (elements : List ℕ) (names seen : List (ℕ × ℕ)) : Type 0 where
  pub shaped : All (λ p. p.1 < length elements) seen
  pub same : (a k : ℕ) → k < length elements → in_name seen a k ≡ in_name names a (slice_index elements k)

-- along a role a place leads to one that passes a test where its element leads to one whose place passes it
pub record AreRolesSeen (elements : List ℕ) (roles seen : List (ℕ × ℕ × ℕ)) : Type 0 where
  pub shaped : All (λ t. (t.1 < length elements) × (t.2 < length elements)) seen
  pub same : (r k : ℕ) (c d : ℕ → Bool) → ((j : ℕ) → j < length elements → d j ≡ c (slice_index elements j)) → k < length elements
      → some_along seen r d k ≡ some_along roles r c (slice_index elements k)

-- at each place the row has what the test says of the element
abbrev pub HasValues : (ℕ → Bool) → List ℕ → List ℕ → Type 0
HasValues test elements words = (k : ℕ) → k < length elements → has words k ≡ test (slice_index elements k)
