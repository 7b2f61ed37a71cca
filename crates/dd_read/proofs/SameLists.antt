-- Rising lists with the same members are the same.
use Rattle.std.proofs.Common.{◌≡◌, ℕ, suc, zero, ◌+◌, ◌<◌, ◌≤◌, ◌==◌, List, [], ◌∷◌, length, get_or, Bool, true, false, refl, ap, sym, ◌∙◌, subst, inl, inr, arith}
use Rattle.std.specs.List.Sorted.{IsStrictlyIncreasing}
use Rattle.std.proofs.lemmas.Bool.{eq-eqb, eqb-true, false≢true, or_cases, or_left, or_right}
use Rattle.dd_peer.specs.Relevant.{is_in}

rest_rises : (x : ℕ) (xs : List ℕ) → IsStrictlyIncreasing (x ∷ xs) → IsStrictlyIncreasing xs
rest_rises x xs h = λ k low.
    let next : suc k + 1 ≡ suc (k + 1) = omega arith in
    let rises : get_or (x ∷ xs) (suc k) 0 < get_or (x ∷ xs) (suc k + 1) 0 = h (suc k) (omega (arith, low)) in
    subst (λ n. get_or (x ∷ xs) (suc k) 0 < get_or (x ∷ xs) n 0) next rises

-- the first is the least
above_first : (x : ℕ) (xs : List ℕ) → IsStrictlyIncreasing (x ∷ xs) → (i : ℕ) → is_in xs i ≡ true → x < i
above_first x [] h i at = absurd (false≢true at)
above_first x (y ∷ ys) h i at =
    let less : x < y = h 0 (omega arith) in
    elim (or_cases (y == i) (is_in ys i) at) [
      | inl e ↦ subst (λ n. x < n) (eqb-true y i e) less
      | inr later ↦ let more = above_first y ys (rest_rises x (y ∷ ys) h) i later in omega (arith, less, more)
    ]

first_in : (x : ℕ) (xs : List ℕ) → is_in (x ∷ xs) x ≡ true
first_in x xs = or_left (x == x) (is_in xs x) (eq-eqb x x refl)

at_most : (x y : ℕ) (ys : List ℕ) → IsStrictlyIncreasing (y ∷ ys) → is_in (y ∷ ys) x ≡ true → y ≤ x
at_most x y ys h at = elim (or_cases (y == x) (is_in ys x) at) [
  | inl e ↦ let same = eqb-true y x e in omega (arith, same)
  | inr later ↦ let less = above_first y ys h x later in omega (arith, less)
]

-- what is in the one rest is in the other
in_rest : (x y : ℕ) (xs ys : List ℕ) → x ≡ y → IsStrictlyIncreasing (x ∷ xs) → ((i : ℕ) → is_in (x ∷ xs) i ≡ true → is_in (y ∷ ys) i ≡ true)
    → (i : ℕ) → is_in xs i ≡ true → is_in ys i ≡ true
in_rest x y xs ys same h all i at =
    let less = above_first x xs h i at in
    elim (or_cases (y == i) (is_in ys i) (all i (or_right (x == i) (is_in xs i) at))) [
      | inl e ↦ let is = eqb-true y i e in absurd (omega (arith, less, same, is))
      | inr there ↦ there
    ]

pub same_rising : (a b : List ℕ) → IsStrictlyIncreasing a → IsStrictlyIncreasing b → ((i : ℕ) → is_in a i ≡ true → is_in b i ≡ true) → ((i : ℕ) → is_in b i ≡ true → is_in a i ≡ true) → a ≡ b
same_rising [] [] h k there back = refl
same_rising [] (y ∷ ys) h k there back = absurd (false≢true (back y (first_in y ys)))
same_rising (x ∷ xs) [] h k there back = absurd (false≢true (there x (first_in x xs)))
same_rising (x ∷ xs) (y ∷ ys) h k there back =
    let down = at_most x y ys k (there x (first_in x xs)) in
    let up = at_most y x xs h (back y (first_in y ys)) in
    let same : x ≡ y = omega (arith, down, up) in
    ap (λ n. n ∷ xs) same
    ∙ ap (λ l. y ∷ l) (same_rising xs ys (rest_rises x xs h) (rest_rises y ys k) (in_rest x y xs ys same h there) (in_rest y x ys xs (sym same) k back))
