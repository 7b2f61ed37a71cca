-- Different names, which a list of symbols takes one by one.
use Rattle.std.proofs.Common.{◌≡◌, ◌<◌, ℕ, ◌+◌, ◌-◌, Bool, true, false, not, cond, ◌&&◌, ◌||◌, List, [], ◌∷◌, ◌++◌, length, take, drop, get_or, refl, sym, ap, ◌∙◌, subst, take-append-drop}
use Rattle.std.specs.Prelude.{IsTrue, nat_le}
use Rattle.std.specs.List.{list_all}
use Rattle.std.specs.Str.{bytes_eq}
use Rattle.std.proofs.lemmas.List.{take_more, take_rest}
use Rattle.std.proofs.lemmas.Slice.Eq.{bytes_eq-Decides}
use Rattle.dd_text.specs.Names.{names_a_thing}
use Rattle.dd_text.specs.Symbols.{has_text, with_text}
use Rattle.dd_text.proofs.Building.{drop-next}
use Rattle.dd_text.proofs.Numbering.{has_text-append, bytes_eq-same}
use Rattle.dd_text.proofs.Reading.{left_of, right_of}
use Rattle.dd_wire.specs.Placed.{are_distinct, are_peers, most_peers}

abbrev Texts : Type 0
Texts = List (List ℕ)

pub distinct_next : (xs : Texts) (i : ℕ) (x : List ℕ) → i < length xs → x ≡ get_or xs i x → are_distinct (drop i xs) ≡ (not (has_text (drop (i + 1) xs) x) && are_distinct (drop (i + 1) xs))
distinct_next xs i x short is = ap are_distinct (drop-next xs i x short is)

pub twice_is_told : (xs : Texts) (i : ℕ) (x : List ℕ) → i < length xs → x ≡ get_or xs i x → are_distinct xs ≡ are_distinct (drop i xs) → has_text (drop (i + 1) xs) x ≡ true → false ≡ are_distinct xs
twice_is_told xs i x short is whole there = sym (whole ∙ distinct_next xs i x short is ∙ ap (λ b. not b && are_distinct (drop (i + 1) xs)) there)

pub once_so_far : (xs : Texts) (i : ℕ) (x : List ℕ) → i < length xs → x ≡ get_or xs i x → are_distinct xs ≡ are_distinct (drop i xs) → has_text (drop (i + 1) xs) x ≡ false → are_distinct xs ≡ are_distinct (drop (i + 1) xs)
once_so_far xs i x short is whole absent = whole ∙ distinct_next xs i x short is ∙ ap (λ b. not b && are_distinct (drop (i + 1) xs)) absent

-- what was found in the slice behind an index
pub in_rest : (xs : Texts) (n : ℕ) (x y : List ℕ) (r b : Bool) → y ≡ x → r ≡ has_text (take (length xs - n) (drop n xs)) y → r ≡ b → has_text (drop n xs) x ≡ b
in_rest xs n x y r b same is told =
    ap (λ l. has_text l x) (sym (take_rest xs n)) ∙ ap (has_text (take (length xs - n) (drop n xs))) (sym same) ∙ sym is ∙ told

-- ---- one name after another

-- a text is among others that begin with some texts and it
has_text-behind : (xs ys : Texts) (t : List ℕ) → has_text (xs ++ t ∷ ys) t ≡ true
has_text-behind xs ys t = has_text-append xs (t ∷ ys) t ∙ ap (λ b. has_text xs t || (b || has_text ys t)) (bytes_eq-same t) ∙ or-true (has_text xs t)
  where
    or-true : (b : Bool) → (b || true) ≡ true
    or-true true = refl
    or-true false = refl

and-false : (a : Bool) → (a && false) ≡ false
and-false true = refl
and-false false = refl

-- where texts are distinct, none of them stands among those before it
new_at : (xs ys : Texts) (t : List ℕ) → are_distinct (xs ++ t ∷ ys) ≡ true → has_text xs t ≡ false
new_at [] ys t h = refl
new_at (x ∷ xs) ys t h =
    let rest : has_text xs t ≡ false = new_at xs ys t (right_of (not (has_text (xs ++ t ∷ ys) x)) (are_distinct (xs ++ t ∷ ys)) h) in
    let absent : not (has_text (xs ++ t ∷ ys) x) ≡ true = left_of (not (has_text (xs ++ t ∷ ys) x)) (are_distinct (xs ++ t ∷ ys)) h in
    differs (bytes_eq t x) refl rest absent
  where
    differs : (b : Bool) → bytes_eq t x ≡ b → has_text xs t ≡ false → not (has_text (xs ++ t ∷ ys) x) ≡ true → (b || has_text xs t) ≡ false
    differs false e rest absent = rest
    differs true e rest absent =
        let same : t ≡ x = (bytes_eq-Decides t x).0 e in
        let there : has_text (xs ++ t ∷ ys) x ≡ true = subst (λ u. has_text (xs ++ t ∷ ys) u ≡ true) same (has_text-behind xs ys t) in
        let off : false ≡ true = ap not (sym there) ∙ absent in cc off

peers_distinct : (names : Texts) → IsTrue (are_peers names) → are_distinct names ≡ true
peers_distinct names h = right_of (nat_le 1 (length names) && nat_le (length names) most_peers && list_all names_a_thing names) (are_distinct names) h

-- the next name is new, and comes behind those before it
pub next_name : (names texts texts' : Texts) (i : ℕ) (x y : List ℕ) → IsTrue (are_peers names) → i < length names → x ≡ get_or names i x → y ≡ x → texts ≡ take i names → texts' ≡ with_text texts y → texts' ≡ take (i + 1) names
next_name names texts texts' i x y peers short is same so_far more =
    let split : names ≡ take i names ++ x ∷ drop (i + 1) names = sym (take-append-drop i names) ∙ ap (λ l. take i names ++ l) (drop-next names i x short is) in
    let absent : has_text (take i names) x ≡ false = new_at (take i names) (drop (i + 1) names) x (ap are_distinct (sym split) ∙ peers_distinct names peers) in
    more ∙ ap (with_text texts) same ∙ ap (λ l. with_text l x) so_far ∙ ap (λ b. cond b (take i names) (take i names ++ x ∷ [])) absent
    ∙ ap (λ (y : List ℕ). take i names ++ y ∷ []) is ∙ sym (take_more names i x short)
