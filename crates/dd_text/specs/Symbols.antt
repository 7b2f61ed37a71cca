-- The texts that stand for numbers: names and roles apart, each text once, a text's number is its position.
use Rattle.std.specs.Prelude.{◌≡◌, ℕ, ◌+◌, ◌≤◌, ◌==◌, Bool, ◌&&◌, not, List, [], ◌∷◌, ◌++◌, length, map, if◌then◌else◌, Some, slice_get, IsTrue}
use Rattle.std.specs.List.{list_all, list_any, position_or_len}
use Rattle.std.specs.Str.{bytes_eq}
use Rattle.std.specs.declared.vec.Vec.{Vec}
use Rattle.dd_text.specs.Names.{names_a_thing}

pub record SymbolLists : Type 0 where
  pub names : List (List ℕ)
  pub roles : List (List ℕ)

-- how many names and roles there may be together
abbrev pub most_symbols : ℕ
most_symbols = 65536

abbrev pub symbol_count : SymbolLists → ℕ
symbol_count s = length s.names + length s.roles

-- the texts with one more, which is appended where it is new
abbrev pub with_text : List (List ℕ) → List ℕ → List (List ℕ)
with_text texts t = if list_any (bytes_eq t) texts then texts else texts ++ t ∷ []

-- the texts with these as well, in their order
abbrev pub with_texts : List (List ℕ) → List (List ℕ) → List (List ℕ)
with_texts texts [] = texts
with_texts texts (t ∷ ts) = with_texts (with_text texts t) ts

-- the number of a text: its position, or how many texts there are where it is none of them
abbrev pub number_of : List (List ℕ) → List ℕ → ℕ
number_of texts t = position_or_len (bytes_eq t) texts

-- no text occurs twice: each is at the position that is its number
abbrev pub IsWithoutRepeats : List (List ℕ) → Type 0
IsWithoutRepeats texts = (n : ℕ) (t : List ℕ) → slice_get texts n ≡ Some t → number_of texts t ≡ n

-- each text has the form of a name
abbrev pub are_names : List (List ℕ) → Bool
are_names texts = list_all names_a_thing texts

-- what holds of all symbols: there are not too many, none occurs twice among its kind, and each has the form of a name
pub record IsNumbering (s : SymbolLists) : Type 0 where
  pub few : symbol_count s ≤ most_symbols
  pub names : IsWithoutRepeats s.names
  pub roles : IsWithoutRepeats s.roles
  pub names_named : IsTrue (are_names s.names)
  pub roles_named : IsTrue (are_names s.roles)

-- whether a text is among the texts
abbrev pub has_text : List (List ℕ) → List ℕ → Bool
has_text texts t = list_any (bytes_eq t) texts

-- the texts have these for their front
pub record Appends (xs zs : List (List ℕ)) : Type 0 where
  pub more : List (List ℕ)
  pub appended : zs ≡ xs ++ more

-- each symbol keeps its number
pub record Grows (old new : SymbolLists) : Type 0 where
  pub names : Appends old.names new.names
  pub roles : Appends old.roles new.roles

-- the text is new, and the symbols, which are so many, are as many as there may be
abbrev pub lacks_room : ℕ → List (List ℕ) → List ℕ → Bool
lacks_room count texts t = (count == most_symbols) && not (has_text texts t)

-- the texts that stand in some vectors, and whether two vectors hold one text
abbrev pub texts_of : {A : Type 0} → List (Vec ℕ A) → List (List ℕ)
texts_of vectors = map (λ v. v.items) vectors

abbrev pub same_text : {A : Type 0} → Vec ℕ A → Vec ℕ A → Bool
same_text v w = bytes_eq v.items w.items
