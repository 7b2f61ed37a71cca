-- Labels as sets: order, growth, and how many there can be.
use Rattle.std.proofs.Common.{◌≡◌, ℕ, zero, suc, ◌+◌, ◌-◌, ◌^◌, ◌<◌, ◌≤◌, Bool, true, false, cond, ◌||◌, List, [], ◌∷◌, ◌++◌, refl, sym, ap, ◌∙◌, arith, ⊎_elim}
use Rattle.std.specs.Prelude.{◌==◌, ◌≢◌, Some, None}
use Rattle.std.proofs.lemmas.Bool.{cases_lt, cases_eq, eq-eqb, ne_eqb, eqb-true, or_cases, false≢true}
use Rattle.std.proofs.lemmas.List.{append-nil}
use Rattle.std.proofs.Math.Nat.{pow-suc}
use Rattle.dd_set.specs.Words.{has, IsWithin, IsNext, IsPacked}
use Rattle.dd_set.specs.Sets.{numbers, count, value, IsWith, Implies}
use Rattle.dd_set.proofs.Comparing.{same-from_numbers}

-- ---- order

pub within-refl : (a : List ℕ) → IsWithin a a
within-refl a n h = h

pub within-trans : (a b c : List ℕ) → IsWithin a b → IsWithin b c → IsWithin a c
within-trans a b c h k n there = k n (h n there)

-- sets within each other are the same words
pub within-antisym : (width : ℕ) (a b : List ℕ) → IsPacked width a → IsPacked width b → IsWithin a b → IsWithin b a → a ≡ b
within-antisym width a b pa pb h k = same-from_numbers width a b pa pb (λ n. both (has a n) (has b n) (h n) (k n))
  where
    both : (x y : Bool) → (x ≡ true → y ≡ true) → (y ≡ true → x ≡ true) → x ≡ y
    both true y f g = sym (f refl)
    both false true f g = g refl
    both false false f g = refl

-- a set with one more number
pub within-with : (a b : List ℕ) (n : ℕ) → IsWith a n b → IsWithin a b
within-with a b n w k there = w k ∙ ap (λ t. (k == n) || t) there ∙ or_true (k == n)
  where
    or_true : (x : Bool) → x || true ≡ true
    or_true true = refl
    or_true false = refl

pub has-with : (a b : List ℕ) (n : ℕ) → IsWith a n b → has b n ≡ true
has-with a b n w = w n ∙ ap (λ t. t || has a n) (eq-eqb n n refl)

-- it is the least one above both: the step of a saturation
pub with-within : (a b : List ℕ) (n : ℕ) (X : ℕ → Bool) → IsWith a n b → Implies (has a) X → X n ≡ true → Implies (has b) X
with-within a b n X w h there k in_b =
    ⊎_elim (λ e. ap X (eqb-true k n e) ∙ there) (λ old. h k old) (or_cases (k == n) (has a k) (sym (w k) ∙ in_b))

-- two sets with the same number more are one
pub with-same : (width : ℕ) (a b c : List ℕ) (n : ℕ) → IsPacked width b → IsPacked width c → IsWith a n b → IsWith a n c → b ≡ c
with-same width a b c n pb pc hb hc = same-from_numbers width b c pb pc (λ k. hb k ∙ sym (hc k))

-- ---- how many

one : Bool → ℕ
one b = cond b 1 0

pub count-le : (a : List ℕ) (w : ℕ) → count a w ≤ w
count-le a zero = omega arith
count-le a (suc w) = elim (has a w) as (λ b. count a w + cond b 1 0 ≤ suc w) [ true ↦ (let h = count-le a w in omega arith) | false ↦ (let h = count-le a w in omega arith) ]

-- numbers that agree below the bound count the same
pub count-agree : (a b : List ℕ) (w : ℕ) → ((k : ℕ) → k < w → has a k ≡ has b k) → count a w ≡ count b w
count-agree a b zero same = refl
count-agree a b (suc w) same =
    ap (λ n. n + cond (has a w) 1 0) (count-agree a b w (λ k h. same k (omega arith))) ∙ ap (λ t. count b w + cond t 1 0) (same w (omega arith))

-- a new number makes one more: the measure of a saturation
pub count-with : (a b : List ℕ) (n w : ℕ) → IsWith a n b → has a n ≡ false → n < w → count b w ≡ count a w + 1
count-with a b n zero is new h = absurd (omega arith)
count-with a b n (suc w) is new h =
    ⊎_elim
    (λ e.
    let before : count b w ≡ count a w = count-agree b a w (λ k below. is k ∙ ap (λ t. t || has a k) (ne_eqb k n (λ s. omega (arith, s, e, below)))) in
    let now : has b w ≡ true = ap (has b) e ∙ has-with a b n is in
    let was : has a w ≡ false = ap (has a) e ∙ new in
    ap (λ m. m + cond (has b w) 1 0) before ∙ ap (λ t. count a w + cond t 1 0) now ∙ sym (ap (λ t. count a w + cond t 1 0 + 1) was ∙ (let z : count a w + 0 + 1 ≡ count a w + 1 = omega arith in z)))
    (λ apart.
    let before : count b w ≡ count a w + 1 = count-with a b n w is new (let ne : w ≢ n = apart in omega arith) in
    let same : has b w ≡ has a w = is w ∙ ap (λ t. t || has a w) (ne_eqb w n apart) in
    ap (λ m. m + cond (has b w) 1 0) before ∙ ap (λ t. count a w + 1 + cond t 1 0) same ∙ (let z : count a w + 1 + cond (has a w) 1 0 ≡ count a w + cond (has a w) 1 0 + 1 = omega arith in z))
    (cases_eq w n)

-- a set within another has no more numbers
pub count-within : (a b : List ℕ) (w : ℕ) → IsWithin a b → count a w ≤ count b w
count-within a b zero h = omega arith
count-within a b (suc w) h = one_more (has a w) (has b w) (count a w) (count b w) (h w) (count-within a b w h)
  where
    one_more : (x y : Bool) (m n : ℕ) → (x ≡ true → y ≡ true) → m ≤ n → m + cond x 1 0 ≤ n + cond y 1 0
    one_more true true m n f h = omega arith
    one_more true false m n f h = absurd (false≢true (f refl))
    one_more false true m n f h = omega arith
    one_more false false m n f h = omega arith

-- and fewer where the other has a number that it lacks
pub count-less : (a b : List ℕ) (n w : ℕ) → IsWithin a b → has a n ≡ false → has b n ≡ true → n < w → count a w < count b w
count-less a b n zero h lacks there low = absurd (omega arith)
count-less a b n (suc w) h lacks there low =
    ⊎_elim
    (λ before. one_more (has a w) (has b w) (count a w) (count b w) (h w) (count-less a b n w h lacks there before))
    (λ from.
    let same : w ≡ n = omega arith in
    last (has a w) (has b w) (count a w) (count b w) (ap (has a) same ∙ lacks) (ap (has b) same ∙ there) (count-within a b w h))
    (cases_lt n w)
  where
    one_more : (x y : Bool) (m n : ℕ) → (x ≡ true → y ≡ true) → m < n → m + cond x 1 0 < n + cond y 1 0
    one_more true true m n f h = omega arith
    one_more true false m n f h = absurd (false≢true (f refl))
    one_more false true m n f h = omega arith
    one_more false false m n f h = omega arith

    last : (x y : Bool) (m n : ℕ) → x ≡ false → y ≡ true → m ≤ n → m + cond x 1 0 < n + cond y 1 0
    last true y m n e f h = cc
    last false true m n e f h = omega arith
    last false false m n e f h = cc

-- a set within another one with as many numbers is that one
pub within-same_count : (width : ℕ) (a b : List ℕ) → IsPacked width a → IsPacked width b → IsWithin a b → count a width ≡ count b width → a ≡ b
within-same_count width a b pa pb h e = same-from_numbers width a b pa pb (λ n. by_cases n (has a n) (has b n) refl refl)
  where
    by_cases : (n : ℕ) (x y : Bool) → has a n ≡ x → has b n ≡ y → x ≡ y
    by_cases n true true p q = refl
    by_cases n true false p q = sym (h n p) ∙ q
    by_cases n false true p q = (let less = count-less a b n width h p q (pb.within n q) in absurd (omega arith))
    by_cases n false false p q = refl

-- ---- walking through a set by `next_from`

-- no number between: the same list
pub numbers-none : (a : List ℕ) (p d : ℕ) → ((k : ℕ) → p ≤ k → k < p + d → has a k ≡ false) → numbers a (p + d) ≡ numbers a p
numbers-none a p zero none = ap (numbers a) (let e : p + zero ≡ p = omega arith in e)
numbers-none a p (suc d) none =
    let e : p + suc d ≡ suc (p + d) = omega arith in
    ap (numbers a) e ∙ ap (λ t. numbers a (p + d) ++ cond t ((p + d) ∷ []) []) (none (p + d) (omega arith) (omega arith)) ∙ append-nil (numbers a (p + d))
    ∙ numbers-none a p d (λ k low high. none k low (omega arith))

pub numbers-next : (a : List ℕ) (p m : ℕ) → IsNext a p (Some m) → numbers a (m + 1) ≡ numbers a p ++ m ∷ []
numbers-next a p m next =
    let e : m + 1 ≡ suc m = omega arith in
    let low = next.0 in
    let d : m ≡ p + (m - p) = omega arith in
    ap (numbers a) e ∙ ap (λ t. numbers a m ++ cond t (m ∷ []) []) next.1
    ∙ ap (λ l. l ++ m ∷ []) (ap (numbers a) d ∙ numbers-none a p (m - p) (λ k from below. next.2 k from (omega arith)))

pub numbers-end : (a : List ℕ) (p w : ℕ) → p ≤ w → IsNext a p None → numbers a w ≡ numbers a p
numbers-end a p w h next =
    let d : w ≡ p + (w - p) = omega arith in
    ap (numbers a) d ∙ numbers-none a p (w - p) (λ k from below. next k from)

-- ---- how many labels of a width there can be

pub value-lt : (a : List ℕ) (w : ℕ) → value a w < 2 ^ w
value-lt a zero = omega arith
value-lt a (suc w) =
    elim (has a w) as (λ b. value a w + cond b (2 ^ w) 0 < 2 ^ suc w) [
      | true ↦ (let h = value-lt a w in let p = pow-suc 2 w in omega arith)
      | false ↦ (let h = value-lt a w in let p = pow-suc 2 w in omega arith)
    ]

-- one value, one set
pub value-same : (a b : List ℕ) (w : ℕ) → value a w ≡ value b w → (k : ℕ) → k < w → has a k ≡ has b k
value-same a b zero e k h = absurd (omega arith)
value-same a b (suc w) e k h =
    let la = value-lt a w in
    let lb = value-lt b w in
    let top : (has a w ≡ has b w) × (value a w ≡ value b w) = split (has a w) (has b w) (value a w) (value b w) (2 ^ w) la lb e in
    ⊎_elim (λ below. value-same a b w top.1 k below) (λ from. let same : k ≡ w = omega arith in ap (has a) same ∙ top.0 ∙ ap (has b) (sym same)) (cases_lt k w)
  where
    split : (x y : Bool) (m n p : ℕ) → m < p → n < p → m + cond x p 0 ≡ n + cond y p 0 → (x ≡ y) × (m ≡ n)
    split true true m n p hm hn e = (refl, omega arith)
    split true false m n p hm hn e = absurd (omega arith)
    split false true m n p hm hn e = absurd (omega arith)
    split false false m n p hm hn e = (refl, omega arith)
