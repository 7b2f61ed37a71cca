-- A label as a strictly rising list.
use Rattle.std.proofs.Common.{◌≡◌, ℕ, zero, suc, ◌<◌, Bool, true, false, cond, ◌||◌, ◌&&◌, List, [], ◌∷◌, ◌++◌, length, get_or, refl, sym, ap, ◌∙◌, subst, arith, ⊎_elim}
use Rattle.std.specs.Prelude.{◌==◌, ◌≢◌, nat_lt}
use Rattle.std.specs.List.{list_any}
use Rattle.std.proofs.lemmas.Bool.{cases_lt, cases_eq, eq-eqb, ne_eqb, lt-ltb, le-ltb}
use Rattle.std.proofs.lemmas.Bool.Decides.{nat_tests}
use Rattle.std.proofs.lemmas.List.{append-nil, get_or_append_left, get_or_push, length_push}
use Rattle.dd_set.specs.Words.{has, IsPacked}
use Rattle.dd_set.specs.Sets.{numbers, with_number, IsRising, IsWith}
use Rattle.dd_set.specs.Marked.{is_among}
use Rattle.dd_set.proofs.Sets.{has-with}

-- ---- the numbers are those of the set, below the bound, and they rise

any_append : (p : ℕ → Bool) (xs : List ℕ) (y : ℕ) → list_any p (xs ++ y ∷ []) ≡ (list_any p xs || p y)
any_append p [] y = or_false (p y)
  where
    or_false : (x : Bool) → x || false ≡ x
    or_false true = refl
    or_false false = refl
any_append p (x ∷ xs) y = ap (λ b. p x || b) (any_append p xs y) ∙ or_assoc (p x) (list_any p xs) (p y)
  where
    or_assoc : (a b c : Bool) → a || (b || c) ≡ (a || b) || c
    or_assoc true b c = refl
    or_assoc false b c = refl

pub has-numbers : (a : List ℕ) (w n : ℕ) → is_among n (numbers a w) ≡ (nat_lt n w && has a n)
has-numbers a zero n = sym (ap (λ t. t && has a n) (le-ltb n 0 (omega arith)))
has-numbers a (suc w) n =
    elim (has a w) as (λ b. has a w ≡ b → list_any (λ k. k == n) (numbers a w ++ cond b (w ∷ []) []) ≡ (nat_lt n (suc w) && has a n)) [
      | true ↦ λ there. any_append (λ k. k == n) (numbers a w) w ∙ ap (λ b. b || (w == n)) (has-numbers a w n) ∙ last true there
      | false ↦ λ absent. ap (list_any (λ k. k == n)) (append-nil (numbers a w)) ∙ has-numbers a w n ∙ sym (or_none (nat_lt n w && has a n)) ∙ last false absent
    ] refl
  where
    or_none : (x : Bool) → x || false ≡ x
    or_none true = refl
    or_none false = refl

    last : (b : Bool) → has a w ≡ b → ((nat_lt n w && has a n) || (b && (w == n))) ≡ (nat_lt n (suc w) && has a n)
    last b is =
        ⊎_elim
        (λ e. let one : (w == n) ≡ true = eq-eqb w n (sym e) in
        let low : nat_lt n (suc w) ≡ true = lt-ltb n (suc w) (omega arith) in
        let not_low : nat_lt n w ≡ false = le-ltb n w (omega arith) in
        let same : has a n ≡ b = ap (has a) e ∙ is in
        tests b (nat_lt n w) (nat_lt n (suc w)) (w == n) (has a n) not_low low one same)
        (λ apart. let none : (w == n) ≡ false = ne_eqb w n (λ e. apart (sym e)) in
        other b (nat_lt n w) (nat_lt n (suc w)) (w == n) (has a n) none (below n w apart))
        (cases_eq n w)
      where
        tests : (b l m o h : Bool) → l ≡ false → m ≡ true → o ≡ true → h ≡ b → ((l && h) || (b && o)) ≡ (m && h)
        tests b l m o h p q r s = ap (λ x. (x && h) || (b && o)) p ∙ ap (λ x. b && x) r ∙ and_true b ∙ sym s ∙ ap (λ x. x && h) (sym q)
          where
            and_true : (x : Bool) → x && true ≡ x
            and_true true = refl
            and_true false = refl

        other : (b l m o h : Bool) → o ≡ false → l ≡ m → ((l && h) || (b && o)) ≡ (m && h)
        other b l m o h p q = ap (λ x. (l && h) || (b && x)) p ∙ drop_none b (l && h) ∙ ap (λ x. x && h) q
          where
            drop_none : (b x : Bool) → (x || (b && false)) ≡ x
            drop_none true true = refl
            drop_none true false = refl
            drop_none false true = refl
            drop_none false false = refl

        below : (n w : ℕ) → n ≢ w → nat_lt n w ≡ nat_lt n (suc w)
        below n w apart = grind (arith, nat_tests)

-- the list of a packed set has the numbers of the set alone
pub among-numbers : (width : ℕ) (a : List ℕ) (n : ℕ) → IsPacked width a → is_among n (numbers a width) ≡ has a n
among-numbers width a n packed = has-numbers a width n ∙ only (has a n) refl
  where
    only : (x : Bool) → has a n ≡ x → (nat_lt n width && x) ≡ x
    only true there = ap (λ b. b && true) (lt-ltb n width (packed.within n there))
    only false absent = none (nat_lt n width)
      where
        none : (b : Bool) → (b && false) ≡ false
        none true = refl
        none false = refl

numbers-below : (a : List ℕ) (w i : ℕ) → i < length (numbers a w) → get_or (numbers a w) i 0 < w
numbers-below a zero i h = absurd (omega arith)
numbers-below a (suc w) i h =
    (elim (has a w) as (λ b. i < length (numbers a w ++ cond b (w ∷ []) []) → get_or (numbers a w ++ cond b (w ∷ []) []) i 0 < suc w) [
      | true ↦ λ within.
          let len = length_push (numbers a w) w in
          ⊎_elim
          (λ old. let low = numbers-below a w i old in let e = get_or_append_left (numbers a w) (w ∷ []) 0 i old in omega arith)
          (λ new. let at : length (numbers a w) ≡ i = omega arith in let e = get_or_push (numbers a w) w 0 i at in omega arith)
          (cases_lt i (length (numbers a w)))
      | false ↦ λ within.
          let e = append-nil (numbers a w) in
          let old : i < length (numbers a w) = subst (λ l. i < length l) e within in
          let low = numbers-below a w i old in
          subst (λ l. get_or l i 0 < suc w) (sym e) (omega arith)
    ]) h

pub numbers-rising : (a : List ℕ) (w : ℕ) → IsRising (numbers a w)
numbers-rising a zero = λ i j h k. absurd (omega arith)
numbers-rising a (suc w) =
    elim (has a w) as (λ b. IsRising (numbers a w ++ cond b (w ∷ []) [])) [
      | true ↦ λ i j h k.
          let len = length_push (numbers a w) w in
          let left : i < length (numbers a w) = omega arith in
          let at_i = get_or_append_left (numbers a w) (w ∷ []) 0 i left in
          ⊎_elim
          (λ old. let less = numbers-rising a w i j h old in let at_j = get_or_append_left (numbers a w) (w ∷ []) 0 j old in omega arith)
          (λ new. let at : length (numbers a w) ≡ j = omega arith in
          let low = numbers-below a w i left in let at_j = get_or_push (numbers a w) w 0 j at in omega arith)
          (cases_lt j (length (numbers a w)))
      | false ↦ subst IsRising (sym (append-nil (numbers a w))) (numbers-rising a w)
    ]

-- ---- one number more

numbers-agree : (a b : List ℕ) (w : ℕ) → ((k : ℕ) → k < w → has a k ≡ has b k) → numbers a w ≡ numbers b w
numbers-agree a b zero same = refl
numbers-agree a b (suc w) same =
    ap (λ l. l ++ cond (has a w) (w ∷ []) []) (numbers-agree a b w (λ k h. same k (omega arith))) ∙ ap (λ t. numbers b w ++ cond t (w ∷ []) []) (same w (omega arith))

abbrev AllLess : ℕ → List ℕ → Type 0
AllLess n xs = (i : ℕ) → i < length xs → get_or xs i 0 < n

with_last : (n : ℕ) (xs : List ℕ) → AllLess n xs → with_number n xs ≡ xs ++ n ∷ []
with_last n [] h = refl
with_last n (x ∷ xs) h =
    let low : x < n = h 0 (omega arith) in
    ap (λ b. cond b (x ∷ xs) (cond (nat_lt n x) (n ∷ (x ∷ xs)) (x ∷ with_number n xs))) (ne_eqb n x (λ e. omega arith))
    ∙ ap (λ b. cond b (n ∷ (x ∷ xs)) (x ∷ with_number n xs)) (le-ltb n x (omega arith))
    ∙ ap (λ (l : List ℕ). x ∷ l) (with_last n xs (λ i k. h (suc i) (omega arith)))

with_push : (n w : ℕ) (xs : List ℕ) → n < w → with_number n xs ++ w ∷ [] ≡ with_number n (xs ++ w ∷ [])
with_push n w [] h =
    sym (ap (λ b. cond b (w ∷ []) (cond (nat_lt n w) (n ∷ (w ∷ [])) (w ∷ (n ∷ [])))) (ne_eqb n w (λ e. omega arith)) ∙ ap (λ b. cond b (n ∷ (w ∷ [])) (w ∷ (n ∷ []))) (lt-ltb n w h))
with_push n w (x ∷ xs) h =
    elim (n == x) as (λ b. cond b (x ∷ xs) (cond (nat_lt n x) (n ∷ (x ∷ xs)) (x ∷ with_number n xs)) ++ w ∷ [] ≡ cond b (x ∷ (xs ++ w ∷ [])) (cond (nat_lt n x) (n ∷ (x ∷ (xs ++ w ∷ []))) (x ∷ with_number n (xs ++ w ∷ [])))) [
      | true ↦ refl
      | false ↦ elim (nat_lt n x) as (λ b. cond b (n ∷ (x ∷ xs)) (x ∷ with_number n xs) ++ w ∷ [] ≡ cond b (n ∷ (x ∷ (xs ++ w ∷ []))) (x ∷ with_number n (xs ++ w ∷ []))) [
        | true ↦ refl
        | false ↦ ap (λ (l : List ℕ). x ∷ l) (with_push n w xs h)
      ]
    ]

pub numbers-with : (a b : List ℕ) (n w : ℕ) → IsWith a n b → has a n ≡ false → n < w → numbers b w ≡ with_number n (numbers a w)
numbers-with a b n zero is new h = absurd (omega arith)
numbers-with a b n (suc w) is new h =
    ⊎_elim
    (λ e.
    let before : numbers b w ≡ numbers a w = numbers-agree b a w (λ k below. is k ∙ ap (λ t. t || has a k) (ne_eqb k n (λ s. omega (arith, s, e, below)))) in
    let now : has b w ≡ true = ap (has b) e ∙ has-with a b n is in
    let was : has a w ≡ false = ap (has a) e ∙ new in
    ap (λ l. l ++ cond (has b w) (w ∷ []) []) before ∙ ap (λ t. numbers a w ++ cond t (w ∷ []) []) now
    ∙ ap (λ k. numbers a w ++ k ∷ []) e ∙ sym (with_last n (numbers a w) (λ i k. subst (λ m. get_or (numbers a w) i 0 < m) e (numbers-below a w i k)))
    ∙ ap (with_number n) (sym (ap (λ t. numbers a w ++ cond t (w ∷ []) []) was ∙ append-nil (numbers a w))))
    (λ apart.
    let low : n < w = (let ne : w ≢ n = apart in omega arith) in
    let before = numbers-with a b n w is new low in
    let same : has b w ≡ has a w = is w ∙ ap (λ t. t || has a w) (ne_eqb w n apart) in
    ap (λ l. l ++ cond (has b w) (w ∷ []) []) before ∙ ap (λ t. with_number n (numbers a w) ++ cond t (w ∷ []) []) same
    ∙ (elim (has a w) as (λ t. with_number n (numbers a w) ++ cond t (w ∷ []) [] ≡ with_number n (numbers a w ++ cond t (w ∷ []) [])) [
      | true ↦ with_push n w (numbers a w) low
      | false ↦ append-nil (with_number n (numbers a w)) ∙ ap (with_number n) (sym (append-nil (numbers a w)))
    ]))
    (cases_eq w n)
