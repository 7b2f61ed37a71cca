-- For the type's own use: of each position in the list its place.
use Rattle.std.specs.Prelude.{ℕ, ◌≡◌, List, Some, slice_get}

abbrev pub ArePlaces : List ℕ → List ℕ → Type 0
ArePlaces list places = (k q : ℕ) → slice_get list k ≡ Some q → slice_get places q ≡ Some k
