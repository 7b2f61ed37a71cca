-- How bytes are cut into lines: a line is the bytes up to a line feed, which has the code 10. The last line may lack
-- the line feed where it has at least one byte.
use Rattle.std.specs.Prelude.{◌≡◌, ℕ, ◌<◌, ◌⊎◌, Bool, false, List, [], ◌∷◌, ◌++◌, length, ◌==◌, if◌then◌else◌}
use Rattle.std.specs.List.{list_any}

-- one more byte in front of the first line
abbrev pub onto : ℕ → List (List ℕ) → List (List ℕ)
onto b [] = (b ∷ []) ∷ []
onto b (l ∷ ls) = (b ∷ l) ∷ ls

-- the input cut at line feeds
abbrev pub lines_of : List ℕ → List (List ℕ)
lines_of [] = []
lines_of (b ∷ bs) = if b == 10 then [] ∷ lines_of bs else onto b (lines_of bs)

-- one more byte in front of the first line, where there is one
abbrev pub before : ℕ → List (List ℕ) → List (List ℕ)
before b [] = []
before b (l ∷ ls) = (b ∷ l) ∷ ls

-- the lines whose line feed is among these bytes: all but a last one that lacks it
abbrev pub ended_lines : List ℕ → List (List ℕ)
ended_lines [] = []
ended_lines (b ∷ bs) = if b == 10 then [] ∷ ended_lines bs else before b (ended_lines bs)

-- whether a line feed is among these bytes
abbrev pub has_feed : List ℕ → Bool
has_feed bytes = list_any (λ b. b == 10) bytes

-- The first line of these bytes, and the rest behind it: all is the line, a line feed and the rest, or the line alone,
-- which has a byte then, and no rest.
abbrev pub IsCut : (all line rest : List ℕ) → Type 0
IsCut all line rest = (has_feed line ≡ false) × ((all ≡ line ++ 10 ∷ rest) ⊎ ((all ≡ line) × (rest ≡ []) × (0 < length line)))
