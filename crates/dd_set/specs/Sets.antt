-- A label as a list of its numbers, and how many there are.
use Rattle.std.specs.Prelude.{◌≡◌, ℕ, zero, suc, ◌+◌, ◌^◌, ◌<◌, ◌==◌, ◌||◌, nat_lt, length, slice_index, Bool, true, List, [], ◌∷◌, ◌++◌, if◌then◌else◌}
use Rattle.dd_set.specs.Words.{has}

-- the numbers of the set below the bound, rising
abbrev pub numbers : List ℕ → ℕ → List ℕ
numbers words zero = []
numbers words (suc n) = numbers words n ++ (if has words n then n ∷ [] else [])

-- how many there are
abbrev pub count : List ℕ → ℕ → ℕ
count words zero = 0
count words (suc n) = count words n + (if has words n then 1 else 0)

-- the set as one number, by its bits
abbrev pub value : List ℕ → ℕ → ℕ
value words zero = 0
value words (suc n) = value words n + (if has words n then 2 ^ n else 0)

-- the second set is the first one with the number n
abbrev pub IsWith : List ℕ → ℕ → List ℕ → Type 0
IsWith a n b = (k : ℕ) → has b k ≡ ((k == n) || has a k)

-- all numbers that the first test passes, the second passes too
abbrev pub Implies : (ℕ → Bool) → (ℕ → Bool) → Type 0
Implies p q = (n : ℕ) → p n ≡ true → q n ≡ true

-- q is the least set that has the property and that p is within. Sets are tests here, so that X may be any: the concepts of an
-- element of a model, say
pub record IsLeast (P : (ℕ → Bool) → Type 0) (p q : ℕ → Bool) : Type 0 where
  pub above : Implies p q
  pub has_it : P q
  pub least : (X : ℕ → Bool) → Implies p X → P X → Implies q X

-- the rising list with one more number
abbrev pub with_number : ℕ → List ℕ → List ℕ
with_number n [] = n ∷ []
with_number n (x ∷ xs) = if n == x then x ∷ xs else (if nat_lt n x then n ∷ (x ∷ xs) else x ∷ with_number n xs)

-- each number is below the ones after it
abbrev pub IsRising : List ℕ → Type 0
IsRising xs = (i j : ℕ) → i < j → j < length xs → slice_index xs i < slice_index xs j
