-- Numbers below a bound in the order in which they came, each once.
use Rattle.std.specs.Prelude.{◌≡◌, ℕ, ◌<◌, ◌≤◌, ◌==◌, ◌++◌, Bool, true, false, List, [], ◌∷◌, length, if◌then◌else◌}
use Rattle.std.specs.List.{IsDistinct, list_any, slice_index_or}

pub record Arrivals : Type 0 where
  pub bound : ℕ
  pub list : List ℕ

-- is this one of the numbers
abbrev pub is_among : ℕ → List ℕ → Bool
is_among n ns = list_any (λ m. m == n) ns

-- the list with the number behind it, where it is not there yet
abbrev pub with_arrival : List ℕ → ℕ → List ℕ
with_arrival ns n = if is_among n ns then ns else ns ++ n ∷ []

-- each number is there once and is below the bound, so there are no more of them than that
pub record AreOnce (bound : ℕ) (ns : List ℕ) : Type 0 where
  pub distinct : IsDistinct (λ m n. m == n) ns
  pub below : (n : ℕ) → is_among n ns ≡ true → n < bound
  pub few : length ns ≤ bound

-- for the type's own use: the marks, one for each number below the bound, tell which numbers the list has
pub record HasMarks (marks : List Bool) (ns : List ℕ) : Type 0 where
  pub agree : (n : ℕ) → slice_index_or marks n false ≡ is_among n ns
  pub once : AreOnce (length marks) ns
