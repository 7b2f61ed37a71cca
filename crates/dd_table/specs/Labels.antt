-- The labels of a table: each once, and a label's number is its position.
use Rattle.std.specs.Prelude.{◌≡◌, ℕ, Bool, List, [], ◌∷◌, ◌++◌, map, if◌then◌else◌, Option, Some, None, slice_get}
use Rattle.std.specs.Borrow.{Bor}
use Rattle.std.specs.List.{list_any, position_or_len}
use Rattle.std.specs.Str.{bytes_eq}
use Rattle.dd_set.specs.Words.{IsPacked}

pub record Labels : Type 0 where
  pub width : ℕ
  pub list : List (List ℕ)

-- the words behind the keys of a set, and whether two keys point to the same words
abbrev pub labels_of : List (Bor (List ℕ)) → List (List ℕ)
labels_of keys = map (λ k. k.now) keys

abbrev pub same_words : Bor (List ℕ) → Bor (List ℕ) → Bool
same_words k j = bytes_eq k.now j.now

-- whether a label is among the labels
abbrev pub has_label : List (List ℕ) → List ℕ → Bool
has_label labels l = list_any (bytes_eq l) labels

-- the labels with one more, which is appended where it is new
abbrev pub with_label : List (List ℕ) → List ℕ → List (List ℕ)
with_label labels l = if has_label labels l then labels else labels ++ l ∷ []

-- the number of a label: its position, or how many labels there are where it is none of them
abbrev pub number_of : List (List ℕ) → List ℕ → ℕ
number_of labels l = position_or_len (bytes_eq l) labels

-- the position of a label, if it is there
abbrev pub place_of : List (List ℕ) → List ℕ → Option ℕ
place_of labels l = if has_label labels l then Some (number_of labels l) else None

-- each label is at its old position
abbrev pub KeepsLabels : List (List ℕ) → List (List ℕ) → Type 0
KeepsLabels old new = (n : ℕ) (l : List ℕ) → slice_get old n ≡ Some l → slice_get new n ≡ Some l

-- no label occurs twice: each is at the position that is its number
abbrev pub IsWithoutRepeats : List (List ℕ) → Type 0
IsWithoutRepeats labels = (n : ℕ) (l : List ℕ) → slice_get labels n ≡ Some l → number_of labels l ≡ n

-- each label is packed
abbrev pub AllPacked : ℕ → List (List ℕ) → Type 0
AllPacked width labels = (n : ℕ) (l : List ℕ) → slice_get labels n ≡ Some l → IsPacked width l
