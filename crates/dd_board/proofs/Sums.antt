-- Sums over lists whose items are sorted by a second list.
use Rattle.std.proofs.Common.{◌≡◌, ◌∙◌, ℕ, zero, suc, ◌+◌, ◌*◌, ◌<◌, ◌≤◌, Bool, true, false, cond, nat_eq, List, [], ◌∷◌, length, Some, ap, refl, subst, sym, inl, inr, arith, count_by, sum_by}
use Rattle.std.specs.List.{slice_get, range_with_len}
use Rattle.std.proofs.lemmas.Bool.{cases_Bool, eqb-true}
use Rattle.std.proofs.lemmas.Option.{same_Some}
use Rattle.std.proofs.lemmas.List.Sums.{sum_by-cons, sum_by-le-sum_by}

pub sum-plus : {A : Type 0} (f g : A → ℕ) (xs : List A) → sum_by (λ x. f x + g x) xs ≡ sum_by f xs + sum_by g xs
sum-plus f g [] = refl
sum-plus f g (x ∷ xs) =
    let a = sum_by-cons (λ y. f y + g y) x xs in
    let b = sum_by-cons f x xs in
    let c = sum_by-cons g x xs in
    let r = sum-plus f g xs in
    omega (arith, a, b, c, r)

pub sum-same : {A : Type 0} (f g : A → ℕ) → ((x : A) → f x ≡ g x) → (xs : List A) → sum_by f xs ≡ sum_by g xs
sum-same f g same [] = refl
sum-same f g same (x ∷ xs) =
    let b = sum_by-cons f x xs in
    let c = sum_by-cons g x xs in
    let r = sum-same f g same xs in
    let s = same x in
    omega (arith, b, c, r, s)

-- one term of a sum is within it
pub term-within : {A : Type 0} (f : A → ℕ) (xs : List A) (k : ℕ) (x : A) → slice_get xs k ≡ Some x → f x ≤ sum_by f xs
term-within f [] k x e = cc
term-within f (y ∷ xs) zero x e =
    let a = sum_by-cons f y xs in
    let s : f y ≡ f x = ap f (same_Some y x e) in
    omega (arith, a, s)
term-within f (y ∷ xs) (suc k) x e =
    let a = sum_by-cons f y xs in
    let r = term-within f xs k x e in
    omega (arith, a, r)

-- where each item is at one of the marks, at least, the sum is within the sum over the marks of what is at them
module _ {A B : Type 0} (w : A → ℕ) (q : A → B → Bool) (marks : List B) where
  abbrev pub at_mark : B → A → ℕ
  at_mark b x = cond (q x b) (w x) 0

  pub sum-cover : (xs : List A)
      → ((k : ℕ) (x : A) → slice_get xs k ≡ Some x → 1 ≤ w x → (j : ℕ) × (b : B) × (slice_get marks j ≡ Some b) × (q x b ≡ true))
      → sum_by w xs ≤ sum_by (λ b. sum_by (at_mark b) xs) marks
  sum-cover [] all = omega arith
  sum-cover (x ∷ xs) all =
      let rest = sum-cover xs (λ k. all (suc k)) in
      let a = sum_by-cons w x xs in
      let b = sum-same (λ b. sum_by (at_mark b) (x ∷ xs)) (λ b. at_mark b x + sum_by (at_mark b) xs) (λ b. sum_by-cons (at_mark b) x xs) marks in
      let c = sum-plus (λ b. at_mark b x) (λ b. sum_by (at_mark b) xs) marks in
      let own : w x ≤ sum_by (λ b. at_mark b x) marks = first (w x) refl in
      omega (arith, rest, a, b, c, own)
    where
      first : (n : ℕ) → w x ≡ n → w x ≤ sum_by (λ b. at_mark b x) marks
      first zero e = omega (arith, e)
      first (suc n) e =
          let h = all 0 x refl (omega (arith, e)) in
          let t = term-within (λ b. at_mark b x) marks h.0 h.1 h.2 in
          let s : at_mark h.1 x ≡ w x = ap (λ y. cond y (w x) 0) h.3 in
          omega (arith, t, s)

abbrev one_if : Bool → ℕ
one_if b = cond b 1 0

-- the terms of the items with a mark are as many as these, where they are that of the mark
pub sum-marked : {A : Type 0} (f : A → ℕ) (g : ℕ → ℕ) (i : ℕ) (xs : List A)
    → sum_by (λ x. cond (nat_eq (f x) i) (g (f x)) 0) xs ≡ count_by (λ x. nat_eq (f x) i) xs * g i
sum-marked f g i [] = omega arith
sum-marked f g i (x ∷ xs) =
    let a = sum_by-cons (λ x. cond (nat_eq (f x) i) (g (f x)) 0) x xs in
    let b : count_by (λ x. nat_eq (f x) i) (x ∷ xs) ≡ one_if (nat_eq (f x) i) + count_by (λ x. nat_eq (f x) i) xs = sum_by-cons (λ x. cond (nat_eq (f x) i) 1 0) x xs in
    let r = sum-marked f g i xs in
    elim (cases_Bool (nat_eq (f x) i)) [
      | inl t ↦
          let u : cond (nat_eq (f x) i) (g (f x)) 0 ≡ g i = ap (λ y. cond y (g (f x)) 0) t ∙ ap g (eqb-true (f x) i t) in
          let v : one_if (nat_eq (f x) i) ≡ 1 = ap one_if t in
          let m : count_by (λ x. nat_eq (f x) i) (x ∷ xs) ≡ suc (count_by (λ x. nat_eq (f x) i) xs) = omega (arith, b, v) in
          subst (λ n. sum_by (λ x. cond (nat_eq (f x) i) (g (f x)) 0) (x ∷ xs) ≡ n * g i) (sym m) (omega (arith, a, u, r))
      | inr n ↦
          let u : cond (nat_eq (f x) i) (g (f x)) 0 ≡ 0 = ap (λ y. cond y (g (f x)) 0) n in
          let v : one_if (nat_eq (f x) i) ≡ 0 = ap one_if n in
          let m : count_by (λ x. nat_eq (f x) i) (x ∷ xs) ≡ count_by (λ x. nat_eq (f x) i) xs = omega (arith, b, v) in
          subst (λ n. sum_by (λ x. cond (nat_eq (f x) i) (g (f x)) 0) (x ∷ xs) ≡ n * g i) (sym m) (omega (arith, a, u, r))
    ]

-- a sum over places is within the sum over the items there
pub sum-places : {A : Type 0} (f : ℕ → ℕ) (g : A → ℕ) (a : ℕ) (xs : List A) → ((k : ℕ) (x : A) → slice_get xs k ≡ Some x → f (a + k) ≤ g x)
    → sum_by f (range_with_len a (length xs)) ≤ sum_by g xs
sum-places f g a [] all = omega arith
sum-places f g a (x ∷ xs) all =
    let b = sum_by-cons f a (range_with_len (a + 1) (length xs)) in
    let c = sum_by-cons g x xs in
    let h = all 0 x refl in
    let z : f (a + 0) ≡ f a = ap f (let e : a + 0 ≡ a = omega arith in e) in
    let r = sum-places f g (a + 1) xs (λ k y e. let s : f (a + suc k) ≡ f (a + 1 + k) = ap f (let e : a + suc k ≡ a + 1 + k = omega arith in e) in
    let t = all (suc k) y e in omega (arith, s, t)) in
    omega (arith, b, c, h, z, r)

-- where each of the events is at one of the first n places, there are no more of them than at all these places
pub count-places : {A : Type 0} (p : A → Bool) (q : ℕ → A → Bool) (n : ℕ) (xs : List A)
    → ((k : ℕ) (x : A) → slice_get xs k ≡ Some x → p x ≡ true → (u : ℕ) × (u < n) × (q u x ≡ true))
    → count_by p xs ≤ sum_by (λ u. count_by (q u) xs) (range_with_len 0 n)
count-places p q n xs all =
    let c = sum-cover (λ x. cond (p x) 1 0) (λ x u. q u x) (range_with_len 0 n) xs (λ k x e one. let passes = positive (p x) one in
    let h = all k x e passes in (h.0, 0 + h.0, at-range 0 n h.0 h.1, ap (λ u. q u x) (let z : 0 + h.0 ≡ h.0 = omega arith in z) ∙ h.2)) in
    let s = sum_by-le-sum_by (λ u. sum_by (λ x. cond (q u x) (cond (p x) 1 0) 0) xs) (λ u. count_by (q u) xs) (range_with_len 0 n)
    (λ u. sum_by-le-sum_by (λ x. cond (q u x) (cond (p x) 1 0) 0) (λ x. cond (q u x) 1 0) xs (λ x. smaller (q u x) (p x))) in
    omega (arith, c, s)
  where
    positive : (b : Bool) → 1 ≤ cond b 1 0 → b ≡ true
    positive true e = refl
    positive false e = absurd (omega (arith, e))

    smaller : (a b : Bool) → cond a (cond b 1 0) 0 ≤ cond a 1 0
    smaller true true = omega arith
    smaller true false = omega arith
    smaller false b = omega arith

    at-range : (a n k : ℕ) → k < n → slice_get (range_with_len a n) k ≡ Some (a + k)
    at-range a zero k lt = absurd (omega (arith, lt))
    at-range a (suc n) zero lt = ap Some (let e : a ≡ a + 0 = omega arith in e)
    at-range a (suc n) (suc k) lt = at-range (a + 1) n k (omega (arith, lt)) ∙ ap Some (let e : (a + 1) + k ≡ a + suc k = omega arith in e)
