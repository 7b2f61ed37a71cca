-- How the parts of a made request are written: compact JSON, and the texts of concepts and axioms.
use Rattle.std.specs.Prelude.{ℕ, ◌==◌, List, [], ◌∷◌, ◌++◌, codes, if◌then◌else◌}
use Rattle.std.specs.Fmt.{decimal}
use Rattle.std.specs.List.{join_by}

-- a word with a number after it, as A12
abbrev pub numbered : List ℕ → ℕ → List ℕ
numbered word n = word ++ decimal n

-- the texts, with a comma between each two
abbrev pub with_commas : List (List ℕ) → List ℕ
with_commas texts = join_by (λ text. text) (codes ",") texts

-- what stands between a text and the n texts before it
abbrev pub comma_after : ℕ → List ℕ
comma_after n = if n == 0 then [] else codes ","

-- a string of JSON: the text between two quotation marks. No text here has a byte that JSON escapes.
abbrev pub quoted : List ℕ → List ℕ
quoted text = 34 ∷ (text ++ 34 ∷ [])

-- a list of JSON
abbrev pub bracketed : List (List ℕ) → List ℕ
bracketed values = 91 ∷ (with_commas values ++ 93 ∷ [])

-- a member of an object, by its name and its value
abbrev pub member : List ℕ → List ℕ → List ℕ
member name value = quoted name ++ 58 ∷ value

-- an object of JSON
abbrev pub braced : List (List ℕ) → List ℕ
braced members = 123 ∷ (with_commas members ++ 125 ∷ [])

-- the concept of what is in one of two
abbrev pub either : List ℕ → List ℕ → List ℕ
either left right = codes "(or " ++ left ++ codes " " ++ right ++ codes ")"

-- the axiom that the first is under the second
abbrev pub implies : List ℕ → List ℕ → List ℕ
implies left right = codes "(implies " ++ left ++ codes " " ++ right ++ codes ")"
