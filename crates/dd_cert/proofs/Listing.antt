-- Lists of values that are written item by item, and texts of symbols and of concepts, which are UTF-8.
use Rattle.std.proofs.Common.{◌≡◌, ◌<◌, ◌≤◌, ℕ, zero, suc, ◌+◌, true, List, [], ◌∷◌, ◌++◌, length, map, take, get_or, Some, refl, sym, ap, ◌∙◌, arith, lit<}
use Rattle.std.specs.Prelude.{nat_lt, slice_get, unwrap_or, Bool}
use Rattle.std.specs.List.{list_all}
use Rattle.std.specs.Str.{IsUtf8}
use Rattle.std.proofs.lemmas.Bool.{and_from, ltb-true}
use Rattle.std.proofs.lemmas.Bool.Decides.{nat_tests}
use Rattle.std.proofs.lemmas.List.{map-append, take_all, take_more}
use Rattle.std.proofs.lemmas.Str.{IsUtf8-from_ascii}
use Rattle.serde_json.specs.Data.{Data, array}
use Rattle.serde_json.specs.View.{items_of, view}
use Rattle.serde_json.specs.declared.value.Value.{Value}
use Rattle.dd_concept.specs.declared.concept.Concept.{Concept}
use Rattle.dd_text.specs.Grammar.{Term, atomic, bottom, conjunction, disjunction, existential, is_written, negation, term_text, top, universal}
use Rattle.dd_text.specs.Names.{is_byte_of_name, names_a_thing}
use Rattle.dd_text.specs.Symbols.{IsNumbering, SymbolLists, are_names}
use Rattle.dd_text.specs.Text.{concept_text, has_symbols, term_of, text_at}
use Rattle.dd_text.proofs.Reading.{left_of, right_of}
use Rattle.dd_text.proofs.RoundTrip.{written_back}
use Rattle.dd_cert.specs.Printed.{list_data}

module _ {X : Type 0} (f : X → Data) (xs : List X) (i : ℕ) (vs : List Value) (so_far : map view vs ≡ map f (take i xs)) where
  pub listed-next : (x : X) (v : Value) (more : List Value) → i < length xs → x ≡ get_or xs i x → view v ≡ f x → more ≡ vs ++ v ∷ [] → map view more ≡ map f (take (i + 1) xs)
  listed-next x v more within is there pushed =
      ap (map view) pushed ∙ map-append view vs (v ∷ []) ∙ ap (λ l. l ++ view v ∷ []) so_far ∙ ap (λ d. map f (take i xs) ++ d ∷ []) (there ∙ ap f is)
      ∙ sym (map-append f (take i xs) (get_or xs i x ∷ [])) ∙ ap (map f) (sym (take_more xs i x within))

  pub listed-all : length xs ≤ i → array (items_of (map view vs)) ≡ list_data (map f xs)
  listed-all past = ap (λ l. array (items_of l)) (so_far ∙ ap (map f) (take_all i xs past))

pub number-listed : (f : ℕ → Data) (xs : List ℕ) (i : ℕ) (vs : List Value) (v : Value) → i < length xs → view v ≡ f (get_or xs i 0) → map view vs ≡ map f (take i xs)
    → map view (vs ++ v ∷ []) ≡ map f (take (i + 1) xs)
number-listed f xs i vs v within is so_far =
    map-append view vs (v ∷ []) ∙ ap (λ l. l ++ view v ∷ []) so_far ∙ ap (λ d. map f (take i xs) ++ d ∷ []) is
    ∙ sym (map-append f (take i xs) (get_or xs i 0 ∷ [])) ∙ ap (map f) (sym (take_more xs i 0 within))

-- an item is the one at its place, whatever stands for places behind the list
pub same-item : {X : Type 0} (xs : List X) (i : ℕ) (x : X) → i < length xs → get_or xs i x ≡ get_or xs i (get_or xs i x)
same-item [] i x within = absurd (omega (arith, within))
same-item (y ∷ ys) zero x within = refl
same-item (y ∷ ys) (suc i) x within = same-item ys i x (omega (arith, within))

-- a few items, one after another
pub two-listed : (a b : Value) (x y z : List Value) → x ≡ [] → y ≡ x ++ a ∷ [] → z ≡ y ++ b ∷ [] → array (items_of (map view z)) ≡ list_data (view a ∷ view b ∷ [])
two-listed a b x y z hx hy hz = ap (λ l. array (items_of (map view l))) (hz ∙ ap (λ l. l ++ b ∷ []) (hy ∙ ap (λ l. l ++ a ∷ []) hx))

pub three-listed : (a b d : Value) (x y z w : List Value) → x ≡ [] → y ≡ x ++ a ∷ [] → z ≡ y ++ b ∷ [] → w ≡ z ++ d ∷ [] → array (items_of (map view w)) ≡ list_data (view a ∷ view b ∷ view d ∷ [])
three-listed a b d x y z w hx hy hz hw = ap (λ l. array (items_of (map view l))) (hw ∙ ap (λ l. l ++ d ∷ []) (hz ∙ ap (λ l. l ++ b ∷ []) (hy ∙ ap (λ l. l ++ a ∷ []) hx)))

pub four-listed : (a b d e : Value) (x y z w u : List Value) → x ≡ [] → y ≡ x ++ a ∷ [] → z ≡ y ++ b ∷ [] → w ≡ z ++ d ∷ [] → u ≡ w ++ e ∷ []
    → array (items_of (map view u)) ≡ list_data (view a ∷ view b ∷ view d ∷ view e ∷ [])
four-listed a b d e x y z w u hx hy hz hw hu =
    ap (λ l. array (items_of (map view l))) (hu ∙ ap (λ l. l ++ e ∷ []) (hw ∙ ap (λ l. l ++ d ∷ []) (hz ∙ ap (λ l. l ++ b ∷ []) (hy ∙ ap (λ l. l ++ a ∷ []) hx))))

-- ---- texts

abbrev is_ascii : ℕ → Bool
is_ascii b = nat_lt b 128

ascii-append : (xs ys : List ℕ) → list_all is_ascii xs ≡ true → list_all is_ascii ys ≡ true → list_all is_ascii (xs ++ ys) ≡ true
ascii-append [] ys h k = k
ascii-append (x ∷ xs) ys h k = and_from (is_ascii x) (list_all is_ascii (xs ++ ys)) (left_of (is_ascii x) (list_all is_ascii xs) h) (ascii-append xs ys (right_of (is_ascii x) (list_all is_ascii xs) h) k)

byte-ascii : (b : ℕ) → is_byte_of_name b ≡ true → is_ascii b ≡ true
byte-ascii b is = grind (arith, nat_tests)

bytes-ascii : (bs : List ℕ) → list_all is_byte_of_name bs ≡ true → list_all is_ascii bs ≡ true
bytes-ascii [] h = refl
bytes-ascii (b ∷ bs) h =
    and_from (is_ascii b) (list_all is_ascii bs) (byte-ascii b (left_of (is_byte_of_name b) (list_all is_byte_of_name bs) h)) (bytes-ascii bs (right_of (is_byte_of_name b) (list_all is_byte_of_name bs) h))

name-ascii : (name : List ℕ) → names_a_thing name ≡ true → list_all is_ascii name ≡ true
name-ascii name is = bytes-ascii name (right_of _ _ (left_of _ _ (left_of _ _ is)))

term-ascii : (t : Term) → is_written t ≡ true → list_all is_ascii (term_text t) ≡ true
term-ascii top h = refl
term-ascii bottom h = refl
term-ascii (atomic a) h = name-ascii a h
term-ascii (negation c) h = ascii-append (term_text c) (41 ∷ []) (term-ascii c h) refl
term-ascii (conjunction c d) h =
    ascii-append (term_text c ++ 32 ∷ term_text d) (41 ∷ []) (ascii-append (term_text c) (32 ∷ term_text d) (term-ascii c (left_of (is_written c) (is_written d) h)) (term-ascii d (right_of (is_written c) (is_written d) h))) refl
term-ascii (disjunction c d) h =
    ascii-append (term_text c ++ 32 ∷ term_text d) (41 ∷ []) (ascii-append (term_text c) (32 ∷ term_text d) (term-ascii c (left_of (is_written c) (is_written d) h)) (term-ascii d (right_of (is_written c) (is_written d) h))) refl
term-ascii (existential r c) h =
    ascii-append (r ++ 32 ∷ term_text c) (41 ∷ []) (ascii-append r (32 ∷ term_text c) (name-ascii r (left_of (names_a_thing r) (is_written c) h)) (term-ascii c (right_of (names_a_thing r) (is_written c) h))) refl
term-ascii (universal r c) h =
    ascii-append (r ++ 32 ∷ term_text c) (41 ∷ []) (ascii-append r (32 ∷ term_text c) (name-ascii r (left_of (names_a_thing r) (is_written c) h)) (term-ascii c (right_of (names_a_thing r) (is_written c) h))) refl

small-bytes : (bs : List ℕ) → list_all is_ascii bs ≡ true → (i : ℕ) → get_or bs i 0 < 128
small-bytes [] is i = lit< tt
small-bytes (b ∷ bs) is zero = ltb-true b 128 (left_of (is_ascii b) (list_all is_ascii bs) is)
small-bytes (b ∷ bs) is (suc i) = small-bytes bs (right_of (is_ascii b) (list_all is_ascii bs) is) i

pub concept-is-text : (s : SymbolLists) (c : Concept) → IsNumbering s → has_symbols s c ≡ true → IsUtf8 (concept_text s c)
concept-is-text s c numbering there =
    IsUtf8-from_ascii (concept_text s c) (small-bytes (concept_text s c) (term-ascii (term_of s c) (written_back s numbering c there).written))

pub named-at : (texts : List (List ℕ)) (n : ℕ) (t : List ℕ) → are_names texts ≡ true → slice_get texts n ≡ Some t → names_a_thing t ≡ true
named-at [] n t named h = cc
named-at (x ∷ xs) zero t named h = let same : x ≡ t = cc in ap names_a_thing (sym same) ∙ left_of (names_a_thing x) (are_names xs) named
named-at (x ∷ xs) (suc n) t named h = named-at xs n t (right_of (names_a_thing x) (are_names xs) named) h

pub name-is-text : (texts : List (List ℕ)) (n : ℕ) (t : List ℕ) → are_names texts ≡ true → slice_get texts n ≡ Some t → IsUtf8 t
name-is-text texts n t named h = IsUtf8-from_ascii t (small-bytes t (name-ascii t (named-at texts n t named h)))

pub text-there : (texts : List (List ℕ)) (n : ℕ) (t : List ℕ) → slice_get texts n ≡ Some t → t ≡ text_at texts n
text-there texts n t h = ap (λ o. unwrap_or o []) (sym h)
