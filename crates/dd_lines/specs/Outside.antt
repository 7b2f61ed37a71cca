-- What a source gives and a sink takes, and how their faults are counted.
use Rattle.std.specs.Prelude.{◌≡◌, ℕ, ◌<◌, ◌≤◌, ◌⊎◌, Option, Some, None, List, [], ◌++◌, take}

-- a count of faults rose: it stands still at its last value, the largest number of 64 bits
abbrev pub Rose : ℕ → ℕ → Type 0
Rose old new = (old < new) ⊎ (18446744073709551615 ≤ new)

-- the first n bytes of the room were taken from what was left. None were taken only where none was left. A source that
-- does not tell what is left still does not tell it.
abbrev pub Takes : (old new : Option (List ℕ)) → (n : ℕ) → (room : List ℕ) → Type 0
Takes None new n room = new ≡ None
Takes (Some xs) None n room = ⊥
Takes (Some xs) (Some ys) n room = (xs ≡ take n room ++ ys) × (n ≡ 0 → xs ≡ [])

-- these bytes were taken from the front of what was left
abbrev pub TakesFront : (old new : Option (List ℕ)) → (bytes : List ℕ) → Type 0
TakesFront None new bytes = new ≡ None
TakesFront (Some xs) None bytes = ⊥
TakesFront (Some xs) (Some ys) bytes = xs ≡ bytes ++ ys

-- these bytes were given behind what was given before. A sink that does not tell what was given still does not tell it.
abbrev pub Gives : (old new : Option (List ℕ)) → (bytes : List ℕ) → Type 0
Gives None new bytes = new ≡ None
Gives (Some xs) None bytes = ⊥
Gives (Some xs) (Some ys) bytes = ys ≡ xs ++ bytes

-- a front of these bytes was given
abbrev pub GivesFront : (old new : Option (List ℕ)) → (bytes : List ℕ) → Type 0
GivesFront old new bytes = (front : List ℕ) × (back : List ℕ) × (bytes ≡ front ++ back) × Gives old new front
