-- Lists of elements, and the places of elements in them.
use Rattle.std.specs.Prelude.{◌≡◌, ℕ, ◌<◌, ◌==◌, Bool, false, List, length, slice_index, Option, None, Some}
use Rattle.std.specs.List.{list_any}

-- is x in the list
abbrev pub is_listed : List ℕ → ℕ → Bool
is_listed xs x = list_any (λ y. y == x) xs

-- the two lists have the same elements
abbrev pub HaveSame : List ℕ → List ℕ → Type 0
HaveSame xs ys = (x : ℕ) → is_listed ys x ≡ is_listed xs x

-- a place at which x stands in the list, and none where it is not there
abbrev pub IsPlace : List ℕ → ℕ → Option ℕ → Type 0
IsPlace xs x None = is_listed xs x ≡ false
IsPlace xs x (Some k) = (k < length xs) × (slice_index xs k ≡ x)
