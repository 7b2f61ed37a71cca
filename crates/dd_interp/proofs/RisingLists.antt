-- Rising lists, made from sorted ones, and the places in them.
use Rattle.std.proofs.Common.{◌≡◌, ◌∙◌, ℕ, zero, suc, ◌+◌, ◌-◌, ◌<◌, ◌≤◌, Bool, true, false, ◌||◌, nat_eq, List, [], ◌∷◌, ◌++◌, length, get_or, take, ap, refl, subst, sym, inl, inr, arith, Err, Less, Greater}
use Rattle.std.specs.List.Sorted.{IsNonDecreasing, IsNonDecreasingBy, IsPartitionPoint}
use Rattle.std.specs.Ordering.{nat_cmp, ordering_index}
use Rattle.std.proofs.lemmas.List.Sorted.{searched}
use Rattle.std.proofs.lemmas.Bool.{cases_lt, cases_eq, eq-eqb, ne_eqb, false≢true}
use Rattle.std.proofs.lemmas.List.{get_or_append_left, get_or-append_right, length-append}
use Rattle.std.proofs.lemmas.List.Folds.{list_any-append, list_any_more, list_any_at, list_any_none}
use Rattle.dd_set.specs.Sets.{IsRising}
use Rattle.dd_interp.specs.Places.{is_listed, HaveSame}

-- ---- rising lists

pub rising-push : (xs : List ℕ) (y : ℕ) → IsRising xs → ((k : ℕ) → k < length xs → get_or xs k 0 < y) → IsRising (xs ++ y ∷ [])
rising-push xs y up above i j lt end =
    let long : length (xs ++ y ∷ []) ≡ length xs + 1 = length-append xs (y ∷ []) in
    let first : get_or (xs ++ y ∷ []) i 0 ≡ get_or xs i 0 = get_or_append_left xs (y ∷ []) 0 i (omega (arith, long, lt, end)) in
    elim (cases_lt j (length xs)) [
      | inl low ↦
          let second : get_or (xs ++ y ∷ []) j 0 ≡ get_or xs j 0 = get_or_append_left xs (y ∷ []) 0 j low in
          let less : get_or xs i 0 < get_or xs j 0 = up i j lt low in
          omega (arith, first, second, less)
      | inr high ↦
          let at : j ≡ length xs = omega (arith, long, end, high) in
          let second : get_or (xs ++ y ∷ []) j 0 ≡ y = subst (λ n. get_or (xs ++ y ∷ []) n 0 ≡ y) (sym at) (get_or-append_right xs (y ∷ []) (length xs) (length xs) 0 refl (omega arith) ∙ ap (λ n. get_or (y ∷ []) n 0) (let zero_is : length xs - length xs ≡ 0 = omega arith in zero_is)) in
          let less : get_or xs i 0 < y = above i (omega (arith, lt, at)) in
          omega (arith, first, second, less)
    ]

-- an element has one place in a rising list
pub rising-one_place : (xs : List ℕ) (i j : ℕ) → IsRising xs → i < length xs → j < length xs → get_or xs i 0 ≡ get_or xs j 0 → i ≡ j
rising-one_place xs i j up hi hj e = elim (cases_lt i j) [
  | inl lt ↦ let less : get_or xs i 0 < get_or xs j 0 = up i j lt hj in absurd (omega (arith, less, e))
  | inr ge ↦ elim (cases_eq i j) [
    | inl same ↦ same
    | inr ne ↦ let less : get_or xs j 0 < get_or xs i 0 = up j i (omega (arith, ge, ne)) hi in absurd (omega (arith, less, e))
  ]
]

pub rising-le : (xs : List ℕ) → IsRising xs → (i j : ℕ) → i ≤ j → j < length xs → get_or xs i 0 ≤ get_or xs j 0
rising-le xs up i j le end = elim (cases_eq i j) [
  | inl same ↦ let e : get_or xs i 0 ≡ get_or xs j 0 = ap (λ n. get_or xs n 0) same in omega (arith, e)
  | inr ne ↦ let less : get_or xs i 0 < get_or xs j 0 = up i j (omega (arith, le, ne)) end in omega (arith, less)
]

-- ---- members

pub listed-at : (xs : List ℕ) (k x : ℕ) → k < length xs → get_or xs k 0 ≡ x → is_listed xs x ≡ true
listed-at xs k x lt e = list_any_at (λ y. nat_eq y x) xs k 0 lt (eq-eqb (get_or xs k 0) x e)

pub not_listed : (xs : List ℕ) (x : ℕ) → ((k : ℕ) → k < length xs → ¬ (get_or xs k 0 ≡ x)) → is_listed xs x ≡ false
not_listed xs x h = list_any_none (λ y. nat_eq y x) xs (λ k d lt. ne_eqb (get_or xs k d) x (λ e. h k lt (same k d lt ∙ e)))
  where
    same : (k d : ℕ) → k < length xs → get_or xs k 0 ≡ get_or xs k d
    same k d lt = default xs k d lt
      where
        default : (xs : List ℕ) (k d : ℕ) → k < length xs → get_or xs k 0 ≡ get_or xs k d
        default [] k d lt = absurd (omega (arith, lt))
        default (y ∷ ys) zero d lt = refl
        default (y ∷ ys) (suc k) d lt = default ys k d (omega (arith, lt))

-- ---- making a rising list of a sorted one

pub record AreDistinctOf (sorted once : List ℕ) (n : ℕ) : Type 0 where
  pub rising : IsRising once
  pub same : (x : ℕ) → is_listed once x ≡ is_listed (take n sorted) x
  pub below : (k j : ℕ) → k < length once → n ≤ j → j < length sorted → get_or once k 0 ≤ get_or sorted j 0

pub distinct-start : (sorted : List ℕ) → AreDistinctOf sorted [] 0
distinct-start sorted = record { rising = λ i j lt end. absurd (omega (arith, end)); same = λ x. refl; below = λ k j lt le end. absurd (omega (arith, lt)) }

module _ (sorted once : List ℕ) (n : ℕ) (up : IsNonDecreasing sorted) (lt : n < length sorted) (h : AreDistinctOf sorted once n) where
  one_more : (x : ℕ) → is_listed (take (n + 1) sorted) x ≡ (is_listed (take n sorted) x || nat_eq (get_or sorted n 0) x)
  one_more x = list_any_more (λ y. nat_eq y x) sorted n 0 lt

  pub distinct-push : ((k : ℕ) → k < length once → get_or once k 0 < get_or sorted n 0) → AreDistinctOf sorted (once ++ get_or sorted n 0 ∷ []) (n + 1)
  distinct-push above = record {
    rising = rising-push once (get_or sorted n 0) h.rising above;
    same = λ x. list_any-append (λ y. nat_eq y x) once (get_or sorted n 0 ∷ [])
        ∙ ap (λ v. v || (nat_eq (get_or sorted n 0) x || false)) (h.same x)
        ∙ ap (λ v. is_listed (take n sorted) x || v) (or-right (nat_eq (get_or sorted n 0) x)) ∙ sym (one_more x);
    below = λ k j less le end.
        let long : length (once ++ get_or sorted n 0 ∷ []) ≡ length once + 1 = length-append once (get_or sorted n 0 ∷ []) in
        let rise : get_or sorted n 0 ≤ get_or sorted j 0 = up n j 0 (omega (arith, le)) end in
        elim (cases_lt k (length once)) [
          | inl low ↦
              let e : get_or (once ++ get_or sorted n 0 ∷ []) k 0 ≡ get_or once k 0 = get_or_append_left once (get_or sorted n 0 ∷ []) 0 k low in
              let b : get_or once k 0 ≤ get_or sorted j 0 = h.below k j low (omega (arith, le)) end in
              omega (arith, e, b)
          | inr high ↦
              let at : k ≡ length once = omega (arith, long, less, high) in
              let e : get_or (once ++ get_or sorted n 0 ∷ []) k 0 ≡ get_or sorted n 0 = subst (λ m. get_or (once ++ get_or sorted n 0 ∷ []) m 0 ≡ get_or sorted n 0) (sym at)
              (get_or-append_right once (get_or sorted n 0 ∷ []) (length once) (length once) 0 refl (omega arith) ∙ ap (λ m. get_or (get_or sorted n 0 ∷ []) m 0) (let zero_is : length once - length once ≡ 0 = omega arith in zero_is)) in
              omega (arith, e, rise)
        ];
  }
    where
      or-right : (b : Bool) → (b || false) ≡ b
      or-right true = refl
      or-right false = refl

  pub distinct-skip : (k : ℕ) → k < length once → get_or sorted n 0 ≤ get_or once k 0 → AreDistinctOf sorted once (n + 1)
  distinct-skip k less le =
      let most : get_or once k 0 ≤ get_or sorted n 0 = h.below k n less (omega arith) lt in
      let e : get_or once k 0 ≡ get_or sorted n 0 = omega (arith, most, le) in
      record {
        rising = h.rising;
        same = λ x. kept x (get_or sorted n 0) (is_listed once x) (λ q. listed-at once k x less (e ∙ q)) ∙ ap (λ v. v || nat_eq (get_or sorted n 0) x) (h.same x) ∙ sym (one_more x);
        below = λ i j il jl end. h.below i j il (omega (arith, jl)) end;
      }
    where
      kept : (x y : ℕ) (b : Bool) → (y ≡ x → b ≡ true) → b ≡ (b || nat_eq y x)
      kept x y true f = refl
      kept x y false f = sym (ne_eqb y x (λ q. false≢true (f q)))

pub distinct-end : (sorted once : List ℕ) (n : ℕ) → take n sorted ≡ sorted → AreDistinctOf sorted once n → HaveSame sorted once
distinct-end sorted once n e h x = h.same x ∙ ap (λ l. is_listed l x) e

-- ---- searching

pub unplaced : (xs : List ℕ) (x i : ℕ) → IsRising xs
    → (IsNonDecreasingBy (λ y. ordering_index (nat_cmp y x)) xs → IsPartitionPoint (λ y. nat_cmp y x ≡ Less) (λ y. nat_cmp y x ≡ Greater) xs i)
    → is_listed xs x ≡ false
unplaced xs x i up parted =
    let h = searched xs x (Err i) parted (rising-le xs up) in
    not_listed xs x (λ k lt e. elim (cases_lt k i) [
      | inl low ↦ let less : get_or xs k 0 < x = h.1 k low in absurd (omega (arith, less, e))
      | inr high ↦ let more : x < get_or xs k 0 = h.2 k high lt in absurd (omega (arith, more, e))
    ])
