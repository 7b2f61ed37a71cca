-- The bytes of a name: ASCII, and none of them a space.
use Rattle.std.proofs.Common.{◌≡◌, ◌<◌, ℕ, Bool, true, false, ◌&&◌, List, [], ◌∷◌, IsTrue, arith, refl, get_or, lit<, zero, suc}
use Rattle.std.specs.Prelude.{◌==◌}
use Rattle.std.specs.List.{list_all}
use Rattle.std.specs.Str.{IsUtf8}
use Rattle.std.proofs.lemmas.Bool.Decides.{nat_tests}
use Rattle.std.proofs.lemmas.Str.{IsUtf8-from_ascii}
use Rattle.dd_text.specs.Names.{names_a_thing, is_byte_of_name}

pub first_holds : (a b : Bool) → (a && b) ≡ true → a ≡ true
first_holds true b both = refl
first_holds false b both = both

pub second_holds : (a b : Bool) → (a && b) ≡ true → b ≡ true
second_holds true b both = both
second_holds false b both = absurd (cc)

pub name_has_name_bytes : (name : List ℕ) → IsTrue (names_a_thing name) → list_all is_byte_of_name name ≡ true
name_has_name_bytes name is = second_holds _ _ (first_holds _ _ (first_holds _ _ is))

byte_is_ascii : (b : ℕ) → is_byte_of_name b ≡ true → b < 128
byte_is_ascii b is = grind (arith, nat_tests)

pub byte_is_no_space : (b : ℕ) → is_byte_of_name b ≡ true → (b == 32) ≡ false
byte_is_no_space b is = grind (arith, nat_tests)

bytes_are_ascii : (bs : List ℕ) → list_all is_byte_of_name bs ≡ true → (i : ℕ) → get_or bs i 0 < 128
bytes_are_ascii [] is i = lit< tt
bytes_are_ascii (b ∷ bs) is zero = byte_is_ascii b (first_holds (is_byte_of_name b) _ is)
bytes_are_ascii (b ∷ bs) is (suc i) = bytes_are_ascii bs (second_holds (is_byte_of_name b) _ is) i

pub name_is_text : (name : List ℕ) → IsTrue (names_a_thing name) → IsUtf8 name
name_is_text name is = IsUtf8-from_ascii name (bytes_are_ascii name (name_has_name_bytes name is))
