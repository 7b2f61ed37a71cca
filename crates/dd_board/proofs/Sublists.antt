-- All parts of a list that keep its order.
use Rattle.std.proofs.Common.{◌≡◌, ◌∙◌, ℕ, zero, suc, ◌+◌, ◌^◌, ◌<◌, ◌≤◌, Bool, true, cond, nat_lt, nat_eq, List, [], ◌∷◌, ◌++◌, map, length, filter, Some, ap, refl, subst, sym, inl, inr, arith, option_map, length-append, All}
use Rattle.std.proofs.lemmas.List.{length-map}
use Rattle.std.proofs.Math.Nat.{pow-suc}
use Rattle.std.specs.List.{slice_get, list_all, range_with_len}
use Rattle.std.proofs.lemmas.Bool.{cases_Bool, and_parts, eqb-true, eqb-false, ltb-true}
use Rattle.std.proofs.lemmas.Option.{slice_get-map}
use Rattle.dd_task.specs.Lines.{is_rising}
use Rattle.std.proofs.lemmas.List.Elements.{All-head, All-tail, All-cons, All-nil, All-weaker}

abbrev pub sublists : {A : Type 0} → List A → List (List A)
sublists [] = [] ∷ []
sublists (x ∷ xs) = sublists xs ++ map (λ s. x ∷ s) (sublists xs)

twice : (n : ℕ) → 2 ^ (suc n) ≡ 2 ^ n + 2 ^ n
twice n = let p = pow-suc 2 n in omega (arith, p)

pub length-sublists : {A : Type 0} (xs : List A) → length (sublists xs) ≡ 2 ^ length xs
length-sublists [] = refl
length-sublists (x ∷ xs) =
    let both = length-append (sublists xs) (map (λ s. x ∷ s) (sublists xs)) in
    let second = length-map (sublists xs) (λ s. x ∷ s) in
    let n = length-sublists xs in
    let p : 2 ^ length (x ∷ xs) ≡ 2 ^ length xs + 2 ^ length xs = twice (length xs) in
    omega (arith, both, second, n, p)

module _ {A : Type 0} where
  at-first : (xs ys : List A) (k : ℕ) (x : A) → slice_get xs k ≡ Some x → slice_get (xs ++ ys) k ≡ Some x
  at-first [] ys k x e = cc
  at-first (a ∷ xs) ys zero x e = e
  at-first (a ∷ xs) ys (suc k) x e = at-first xs ys k x e

  at-second : (xs ys : List A) (k : ℕ) → slice_get (xs ++ ys) (length xs + k) ≡ slice_get ys k
  at-second [] ys k = ap (slice_get ys) (let e : 0 + k ≡ k = omega arith in e)
  at-second (a ∷ xs) ys k = ap (slice_get (a ∷ (xs ++ ys))) (let e : suc (length xs) + k ≡ suc (length xs + k) = omega arith in e) ∙ at-second xs ys k

module _ {A : Type 0} (x : A) (xs : List A) where
  passed : (k : ℕ) (s : List A) → slice_get (sublists xs) k ≡ Some s → (j : ℕ) × (slice_get (sublists (x ∷ xs)) j ≡ Some s)
  passed k s e = (k, at-first (sublists xs) (map (λ s. x ∷ s) (sublists xs)) k s e)

  taken : (k : ℕ) (s : List A) → slice_get (sublists xs) k ≡ Some s → (j : ℕ) × (slice_get (sublists (x ∷ xs)) j ≡ Some (x ∷ s))
  taken k s e = (
    length (sublists xs) + k,
    at-second (sublists xs) (map (λ s. x ∷ s) (sublists xs)) k ∙ (slice_get-map (λ s. x ∷ s) (sublists xs) k ∙ ap (option_map (λ s. x ∷ s)) e),
  )

-- what passes a test is such a part
pub filter-is-one : {A : Type 0} (p : A → Bool) (xs : List A) → (j : ℕ) × (slice_get (sublists xs) j ≡ Some (filter p xs))
filter-is-one p [] = (0, refl)
filter-is-one p (x ∷ xs) = let rest = filter-is-one p xs in elim (cases_Bool (p x)) [
  | inl t ↦ subst (λ b. (j : ℕ) × (slice_get (sublists (x ∷ xs)) j ≡ Some (cond b (x ∷ filter p xs) (filter p xs)))) (sym t) (taken x xs rest.0 (filter p xs) rest.1)
  | inr f ↦ subst (λ b. (j : ℕ) × (slice_get (sublists (x ∷ xs)) j ≡ Some (cond b (x ∷ filter p xs) (filter p xs)))) (sym f) (passed x xs rest.0 (filter p xs) rest.1)
]

-- ---- rising numbers below a bound

above : (n : ℕ) (ns : List ℕ) → list_all (λ m. nat_lt n m) ns ≡ true → All (λ m. n + 1 ≤ m) ns
above n [] h = All-nil (λ m. n + 1 ≤ m)
above n (m ∷ ns) h =
    let parts = and_parts (nat_lt n m) (list_all (λ m. nat_lt n m) ns) h in
    let lt : n < m = ltb-true n m parts.0 in
    All-cons (λ m. n + 1 ≤ m) m ns (omega (arith, lt)) (above n ns parts.1)

pub rising-is-one : (n a : ℕ) (ns : List ℕ) → is_rising ns ≡ true → All (λ m. a ≤ m) ns → All (λ m. m < a + n) ns
    → (j : ℕ) × (slice_get (sublists (range_with_len a n)) j ≡ Some ns)
rising-is-one zero a [] r low high = (0, refl)
rising-is-one zero a (m ∷ ns) r low high =
    let l = All-head (λ m. a ≤ m) m ns low in let h = All-head (λ m. m < a + 0) m ns high in absurd (omega (arith, l, h))
rising-is-one (suc n) a [] r low high =
    let rest = rising-is-one n (a + 1) [] refl (All-nil (λ m. a + 1 ≤ m)) (All-nil (λ m. m < a + 1 + n)) in
    passed a (range_with_len (a + 1) n) rest.0 [] rest.1
rising-is-one (suc n) a (m ∷ ns) r low high =
    let parts = and_parts (list_all (λ k. nat_lt m k) ns) (is_rising ns) r in
    let l = All-head (λ m. a ≤ m) m ns low in
    let up : All (λ k. k < a + 1 + n) (m ∷ ns) = All-weaker (λ k. k < a + suc n) (λ k. k < a + 1 + n) (λ k h. omega (arith, h)) (m ∷ ns) high in
    let over : All (λ k. m + 1 ≤ k) ns = above m ns parts.0 in
    elim (cases_Bool (nat_eq a m)) [
      | inl t ↦
          let same : a ≡ m = eqb-true a m t in
          let rest = rising-is-one n (a + 1) ns parts.1 (All-weaker (λ k. m + 1 ≤ k) (λ k. a + 1 ≤ k) (λ k h. omega (arith, h, same)) ns over)
          (All-tail (λ k. k < a + 1 + n) m ns up) in
          let one = taken a (range_with_len (a + 1) n) rest.0 ns rest.1 in
          (one.0, one.1 ∙ ap (λ k. Some (k ∷ ns)) same)
      | inr f ↦
          let lt : a < m = (let o = eqb-false a m f in omega (arith, l, o)) in
          let rest = rising-is-one n (a + 1) (m ∷ ns) r
          (All-cons (λ k. a + 1 ≤ k) m ns (omega (arith, lt)) (All-weaker (λ k. m + 1 ≤ k) (λ k. a + 1 ≤ k) (λ k h. omega (arith, h, lt)) ns over)) up in
          passed a (range_with_len (a + 1) n) rest.0 (m ∷ ns) rest.1
    ]
