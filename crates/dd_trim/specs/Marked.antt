-- For private clauses: marks on the lines that are needed, and what is kept by them.
use Rattle.std.specs.Prelude.{◌≡◌, ℕ, suc, ◌+◌, ◌<◌, ◌≤◌, ◌⊎◌, Bool, true, false, List, [], ◌∷◌, length, slice_get, Some}
use Rattle.std.specs.List.{slice_index_or}
use Rattle.dd_task.specs.Keys.{is_among}
use Rattle.dd_task.specs.declared.line.Line.{Line}
use Rattle.dd_trim.specs.Cited.{cited_by, renumbered}

-- one more where there is a mark
abbrev pub counted : Bool → ℕ → ℕ
counted true n = suc n
counted false n = n

-- has line n its mark
abbrev pub is_marked : List Bool → ℕ → Bool
is_marked marks n = slice_index_or marks n false

-- the marks of these lines were set, as far as the lines stand before line k
pub record Marks (k : ℕ) (cites : List ℕ) (old new : List Bool) : Type 0 where
  pub size : length new ≡ length old
  pub here : (c : ℕ) → is_among cites c ≡ true → c < k → is_marked new c ≡ true
  pub kept : (c : ℕ) → is_marked old c ≡ true → is_marked new c ≡ true
  pub only : (c : ℕ) → is_marked new c ≡ true → (is_marked old c ≡ true) ⊎ ((is_among cites c ≡ true) × (c < k))

-- the same, where line k has its mark; else nothing changes
pub record Visits (k : ℕ) (cites : List ℕ) (old new : List Bool) : Type 0 where
  pub marked : is_marked old k ≡ true → Marks k cites old new
  pub unmarked : is_marked old k ≡ false → new ≡ old

-- The marks are those of the last line and of the lines that marked lines cite, all from line k on looked at.
pub record AreMarked (lines : List Line) (k : ℕ) (marks : List Bool) : Type 0 where
  pub size : length marks ≡ length lines
  pub last : (n : ℕ) → n + 1 ≡ length lines → is_marked marks n ≡ true
  pub cited : (n : ℕ) (line : Line) → k ≤ n → is_marked marks n ≡ true → slice_get lines n ≡ Some line
      → (c : ℕ) → is_among (cited_by line.why) c ≡ true → c < n → is_marked marks c ≡ true
  pub each : (n : ℕ) → is_marked marks n ≡ true → (n + 1 ≡ length lines)
      ⊎ ((m : ℕ) × (line : Line) × (n < m) × (is_marked marks m ≡ true) × (slice_get lines m ≡ Some line) × (is_among (cited_by line.why) n ≡ true))

-- how many lines before line n have a mark: the number of line n among these
abbrev pub place_of : List Bool → ℕ → ℕ
place_of (b ∷ marks) (suc n) = counted b (place_of marks n)
place_of _ _ = 0

-- the number at this place of the list, or 0
abbrev pub number_at : List ℕ → ℕ → ℕ
number_at places n = slice_index_or places n 0

-- the list has the numbers of all lines
pub record ArePlaces (marks : List Bool) (places : List ℕ) : Type 0 where
  pub size : length places ≡ length marks
  pub each : (n : ℕ) → n < length marks → number_at places n ≡ place_of marks n

-- the lines that have a mark, with other numbers
abbrev pub kept_of : List Bool → (ℕ → ℕ) → List Line → List Line
kept_of (true ∷ marks) f (line ∷ lines) = renumbered f line ∷ kept_of marks f lines
kept_of (false ∷ marks) f (line ∷ lines) = kept_of marks f lines
kept_of _ f _ = []
