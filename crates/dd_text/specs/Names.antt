-- Which texts are names. Concept names, role names and peer names have this one form.
use Rattle.std.specs.Prelude.{ℕ, ◌==◌, ◌&&◌, ◌||◌, Bool, false, not, nat_le, List, [], ◌∷◌, length, codes}
use Rattle.std.specs.List.{list_any, list_all}
use Rattle.std.specs.Char.{is_ascii_alphabetic, is_ascii_alphanumeric}
use Rattle.std.specs.Str.{bytes_eq}

-- the longest name, in bytes
abbrev pub longest_name : ℕ
longest_name = 64

-- the words of the language, which are no names
abbrev pub reserved : List (List ℕ)
reserved = codes "top" ∷ codes "bottom" ∷ codes "not" ∷ codes "and" ∷ codes "or" ∷ codes "some" ∷ codes "all" ∷ codes "implies" ∷ codes "subrole" ∷ []

abbrev pub is_reserved_word : List ℕ → Bool
is_reserved_word text = list_any (bytes_eq text) reserved

-- what may stand in a name: an ASCII letter or digit, `_`, `-`, `.` or `:`
abbrev pub is_byte_of_name : ℕ → Bool
is_byte_of_name b = is_ascii_alphanumeric b || (b == 95) || (b == 45) || (b == 46) || (b == 58)

abbrev pub begins_with_letter : List ℕ → Bool
begins_with_letter [] = false
begins_with_letter (b ∷ bs) = is_ascii_alphabetic b

-- a letter, and then bytes of names, at most 64 in all, and no word of the language
abbrev pub names_a_thing : List ℕ → Bool
names_a_thing text = begins_with_letter text && list_all is_byte_of_name text && nat_le (length text) longest_name && not (is_reserved_word text)
