-- The first items of a list, and one more.
use Rattle.std.proofs.Common.{◌≡◌, ◌∙◌, ◌+◌, ◌<◌, ◌||◌, ◌==◌, ℕ, zero, suc, Bool, true, false, List, [], ◌∷◌, ◌++◌, length, take, ap, ap₂, refl, sym, arith, slice_get, Some}
use Rattle.std.specs.List.{list_any}
use Rattle.std.proofs.lemmas.List.{map-append}
use Rattle.std.proofs.lemmas.Option.{slice_get_within}
use Rattle.dd_concept.specs.declared.concept.Concept.{Concept}
use Rattle.dd_set.specs.Words as words
use Rattle.dd_set.specs.Words.{Label}
use Rattle.dd_rules.specs.Numbers.{number_of, place_of}
use Rattle.dd_rules.proofs.Forming.{number-at}
use Rattle.dd_run.specs.Numbers.{AreNumbersOf, with_width}

pub take-more : {A : Type 0} (xs : List A) (n : ℕ) (x : A) → slice_get xs n ≡ Some x → take (n + 1) xs ≡ take n xs ++ x ∷ []
take-more [] n x e = cc
take-more (y ∷ ys) zero x e = ap (λ z. z ∷ []) (let is : y ≡ x = cc in is)
take-more (y ∷ ys) (suc n) x e = ap (λ k. take k (y ∷ ys)) (let next : suc n + 1 ≡ suc (n + 1) = omega arith in next) ∙ ap (λ zs. y ∷ zs) (take-more ys n x e)

-- labels of one width, and one more
pub labels-more : (width : ℕ) (ls : List (List ℕ)) (n : ℕ) (l : List ℕ) → slice_get ls n ≡ Some l
    → with_width width (take n ls) ++ record { width = width; words = l } ∷ [] ≡ with_width width (take (n + 1) ls)
labels-more width ls n l e =
    sym (map-append (λ ws. record { width = width; words = ws }) (take n ls) (l ∷ [])) ∙ ap (with_width width) (sym (take-more ls n l e))

pub item-pushed : {A : Type 0} (xs old new : List A) (n : ℕ) (x : A) → new ≡ old ++ x ∷ [] → slice_get xs n ≡ Some x → old ≡ take n xs → new ≡ take (n + 1) xs
item-pushed xs old new n x is e had = is ∙ ap (λ l. l ++ x ∷ []) had ∙ sym (take-more xs n x e)

pub label-pushed : (width : ℕ) (ls : List (List ℕ)) (n : ℕ) (old new : List Label) (bits label : Label) → new ≡ old ++ bits ∷ [] → bits ≡ label → label.width ≡ width
    → slice_get ls n ≡ Some label.words → old ≡ with_width width (take n ls) → new ≡ with_width width (take (n + 1) ls)
label-pushed width ls n old new bits label is same wide e had =
    let as_record : bits ≡ record { width = width; words = label.words } =
    same ∙ ap (λ k. let l : Label = record { width = k; words = label.words } in l) wide in
    is ∙ ap₂ (λ (l : List Label) (b : Label). l ++ b ∷ []) had as_record ∙ labels-more width ls n label.words e

-- the number of a concept is below the length
pub number-low : (concepts : List Concept) (c : Concept) (n : ℕ) → Some n ≡ number_of concepts c → n < length concepts
number-low concepts c n e = slice_get_within concepts n c (number-at concepts n c e)

-- the numbers of one concept more
any-more : {A : Type 0} (t : A → Bool) (xs : List A) (x : A) → list_any t (xs ++ x ∷ []) ≡ (t x || list_any t xs)
any-more t [] x = refl
any-more t (y ∷ ys) x = ap (λ b. t y || b) (any-more t ys x) ∙ turned (t y) (t x) (list_any t ys)
  where
    turned : (a b c : Bool) → (a || (b || c)) ≡ (b || (a || c))
    turned true true c = refl
    turned true false c = refl
    turned false b c = refl

pub numbers-more : (concepts label : List Concept) (n : ℕ) (c : Concept) (old new : List ℕ) → slice_get label n ≡ Some c → AreNumbersOf concepts (take n label) old
    → ((k : ℕ) → words.has new k ≡ ((k == place_of concepts c) || words.has old k)) → AreNumbersOf concepts (take (n + 1) label) new
numbers-more concepts label n c old new e had with k =
    with k ∙ ap (λ b. (k == place_of concepts c) || b) (had k)
    ∙ sym (ap (list_any (λ d. k == place_of concepts d)) (take-more label n c e) ∙ any-more (λ d. k == place_of concepts d) (take n label) c)
