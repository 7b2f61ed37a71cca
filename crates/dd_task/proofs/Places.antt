-- Where items stand in lists that are made of others.
use Rattle.std.proofs.Common.{◌≡◌, ◌∙◌, ◌⊎◌, ℕ, zero, suc, ◌+◌, ◌<◌, Bool, true, false, ◌||◌, nat_eq, cond, List, [], ◌∷◌, ◌++◌, map, length, get_or, None, Some, ap, refl, subst, sym, inl, inr, arith}
use Rattle.std.specs.List.{All, slice_get, filter, flat_map, enumerate_from}
use Rattle.std.specs.Option.{option_map_or}
use Rattle.std.proofs.lemmas.Bool.{cases_Bool, ne_eqb, eq-eqb, eqb-true, or_from}
use Rattle.std.proofs.lemmas.Option.{same_Some, get_or_from_slice_get, slice_get_within, slice_get-get_or}
use Rattle.dd_task.specs.Keys.{is_among}
use Rattle.dd_task.specs.Targets.{positions}

module _ (A : Type 0) where
  pub no_none : (x : A) → None ≡ Some x → ⊥
  no_none x e = cc

  pub at-append : (xs ys : List A) (k : ℕ) (x : A) → slice_get xs k ≡ Some x → slice_get (xs ++ ys) k ≡ Some x
  at-append [] ys k x e = cc
  at-append (a ∷ xs) ys zero x e = e
  at-append (a ∷ xs) ys (suc k) x e = at-append xs ys k x e

  pub at-behind : (xs ys : List A) (k : ℕ) → slice_get (xs ++ ys) (length xs + k) ≡ slice_get ys k
  at-behind [] ys k = ap (slice_get ys) (let e : 0 + k ≡ k = omega arith in e)
  at-behind (a ∷ xs) ys k = ap (slice_get (a ∷ (xs ++ ys))) (let e : suc (length xs) + k ≡ suc (length xs + k) = omega arith in e) ∙ at-behind xs ys k

  -- an item of a list that is put together stands in one of its parts
  pub at-append_cases : (xs ys : List A) (k : ℕ) (x : A) → slice_get (xs ++ ys) k ≡ Some x
      → (slice_get xs k ≡ Some x) ⊎ ((j : ℕ) × (k ≡ length xs + j) × (slice_get ys j ≡ Some x))
  at-append_cases [] ys k x e = inr (k, (let z : k ≡ 0 + k = omega arith in z), e)
  at-append_cases (a ∷ xs) ys zero x e = inl e
  at-append_cases (a ∷ xs) ys (suc k) x e = elim (at-append_cases xs ys k x e) [
    | inl h ↦ inl h
    | inr h ↦ inr (h.0, (let z : suc k ≡ suc (length xs) + h.0 = omega (arith, h.1) in z), h.2)
  ]

  pub All-at : (P : A → Type 0) (xs : List A) (k : ℕ) (x : A) → All P xs → slice_get xs k ≡ Some x → P x
  All-at P xs k x h s = subst P (get_or_from_slice_get xs k x x s) (h k x (slice_get_within xs k x s))

  pub All-from : (P : A → Type 0) (xs : List A) → ((k : ℕ) (x : A) → slice_get xs k ≡ Some x → P x) → All P xs
  All-from P xs h k d lt = h k (get_or xs k d) (slice_get-get_or xs k d lt)

  module _ (test : A → Bool) where
    pub at-filter : (xs : List A) (q : ℕ) (x : A) → slice_get xs q ≡ Some x → test x ≡ true
        → (k : ℕ) × (slice_get (filter test xs) k ≡ Some x)
    at-filter [] q x e p = cc
    at-filter (a ∷ xs) zero x e p =
        let first : test a ≡ true = ap test (same_Some a x e) ∙ p in
        (0, ap (λ b. slice_get (cond b (a ∷ filter test xs) (filter test xs)) 0) first ∙ e)
    at-filter (a ∷ xs) (suc q) x e p =
        let h = at-filter xs q x e p in
        elim (cases_Bool (test a)) [
          | inl passes ↦ (suc h.0, ap (λ b. slice_get (cond b (a ∷ filter test xs) (filter test xs)) (suc h.0)) passes ∙ h.1)
          | inr fails ↦ (h.0, ap (λ b. slice_get (cond b (a ∷ filter test xs) (filter test xs)) h.0) fails ∙ h.1)
        ]

    Found : List A → A → Type 0
    Found xs x = (test x ≡ true) × (q : ℕ) × (slice_get xs q ≡ Some x)

    found_later : (a : A) (xs : List A) (x : A) → Found xs x → Found (a ∷ xs) x
    unfolding Found
    found_later a xs x h = (h.0, suc h.1, h.2)

    found_now : (a : A) (xs : List A) (x : A) → a ≡ x → test a ≡ true → Found (a ∷ xs) x
    unfolding Found
    found_now a xs x e p = (ap test (sym e) ∙ p, 0, ap Some e)

    filter-first : (a : A) (xs : List A) (k : ℕ) (x : A) → test a ≡ true
        → ((j : ℕ) → slice_get (filter test xs) j ≡ Some x → Found xs x) → slice_get (a ∷ filter test xs) k ≡ Some x → Found (a ∷ xs) x
    filter-first a xs zero x p rest e = found_now a xs x (same_Some a x e) p
    filter-first a xs (suc k) x p rest e = found_later a xs x (rest k e)

    filter-at : (xs : List A) (k : ℕ) (x : A) → slice_get (filter test xs) k ≡ Some x → Found xs x
    filter-at [] k x e = cc
    filter-at (a ∷ xs) k x e = elim (cases_Bool (test a)) [
      | inl passes ↦ filter-first a xs k x passes (λ j. filter-at xs j x)
          (ap (λ b. slice_get (cond b (a ∷ filter test xs) (filter test xs)) k) (sym passes) ∙ e)
      | inr fails ↦ found_later a xs x (filter-at xs k x (ap (λ b. slice_get (cond b (a ∷ filter test xs) (filter test xs)) k) (sym fails) ∙ e))
    ]

    pub passes_filter : (xs : List A) (k : ℕ) (x : A) → slice_get (filter test xs) k ≡ Some x → test x ≡ true
    unfolding Found
    passes_filter xs k x e = (filter-at xs k x e).0

    pub before_filter : (xs : List A) (k : ℕ) (x : A) → slice_get (filter test xs) k ≡ Some x → (q : ℕ) × (slice_get xs q ≡ Some x)
    unfolding Found
    before_filter xs k x e = let h = filter-at xs k x e in (h.1, h.2)

    abbrev pub places_from : ℕ → List A → List ℕ
    places_from n xs = map (λ e. e.0) (filter (λ e. test e.1) (enumerate_from n xs))

    pub unfold_places : (n : ℕ) (a : A) (xs : List A) (b : Bool) → test a ≡ b
        → places_from n (a ∷ xs) ≡ cond b (n ∷ places_from (n + 1) xs) (places_from (n + 1) xs)
    unfold_places n a xs true e = ap (λ b. map (λ e. e.0) (cond b ((n, a) ∷ filter (λ e. test e.1) (enumerate_from (n + 1) xs)) (filter (λ e. test e.1) (enumerate_from (n + 1) xs)))) e
    unfold_places n a xs false e = ap (λ b. map (λ e. e.0) (cond b ((n, a) ∷ filter (λ e. test e.1) (enumerate_from (n + 1) xs)) (filter (λ e. test e.1) (enumerate_from (n + 1) xs)))) e

    -- no place before the first one
    none_before : (n k : ℕ) (xs : List A) → k < n → is_among (places_from n xs) k ≡ false
    none_before n k [] lt = refl
    none_before n k (a ∷ xs) lt =
        let rest = none_before (n + 1) k xs (omega (arith, lt)) in
        elim (cases_Bool (test a)) [
          | inl passes ↦ ap (λ l. is_among l k) (unfold_places n a xs true passes) ∙ or_from (nat_eq n k) (is_among (places_from (n + 1) xs) k)
              (ne_eqb n k (λ q. absurd (omega (arith, q, lt)))) rest
          | inr fails ↦ ap (λ l. is_among l k) (unfold_places n a xs false fails) ∙ rest
        ]

    among_from : (n k : ℕ) (xs : List A) → is_among (places_from n xs) (n + k) ≡ option_map_or test (slice_get xs k) false
    among_from n k [] = refl
    among_from n zero (a ∷ xs) =
        let rest = none_before (n + 1) (n + 0) xs (omega arith) in
        elim (cases_Bool (test a)) [
          | inl passes ↦ ap (λ l. is_among l (n + 0)) (unfold_places n a xs true passes)
              ∙ ap (λ b. b || is_among (places_from (n + 1) xs) (n + 0)) (eq-eqb n (n + 0) (omega arith)) ∙ sym passes
          | inr fails ↦ ap (λ l. is_among l (n + 0)) (unfold_places n a xs false fails) ∙ rest ∙ sym fails
        ]
    among_from n (suc k) (a ∷ xs) =
        let rest : is_among (places_from (n + 1) xs) (n + suc k) ≡ option_map_or test (slice_get xs k) false =
        ap (is_among (places_from (n + 1) xs)) (let e : n + suc k ≡ (n + 1) + k = omega arith in e) ∙ among_from (n + 1) k xs in
        elim (cases_Bool (test a)) [
          | inl passes ↦ ap (λ l. is_among l (n + suc k)) (unfold_places n a xs true passes)
              ∙ ap (λ b. b || is_among (places_from (n + 1) xs) (n + suc k)) (ne_eqb n (n + suc k) (λ q. absurd (omega (arith, q)))) ∙ rest
          | inr fails ↦ ap (λ l. is_among l (n + suc k)) (unfold_places n a xs false fails) ∙ rest
        ]

    -- k is one of the places exactly where the item at k passes
    pub among_positions : (xs : List A) (k : ℕ) → is_among (positions test xs) k ≡ option_map_or test (slice_get xs k) false
    among_positions xs k = ap (is_among (positions test xs)) (let e : k ≡ 0 + k = omega arith in e) ∙ among_from 0 k xs

pub among-at : (set : List ℕ) (k : ℕ) → is_among set k ≡ true → (n : ℕ) × (slice_get set n ≡ Some k)
among-at [] k e = cc
among-at (a ∷ set) k e = elim (cases_Bool (nat_eq a k)) [
  | inl same ↦ (0, ap Some (eqb-true a k same))
  | inr other ↦
      let h = among-at set k (ap (λ b. b || is_among set k) (sym other) ∙ e) in
      (suc h.0, h.1)
]

pub at-among : (set : List ℕ) (n k : ℕ) → slice_get set n ≡ Some k → is_among set k ≡ true
at-among [] n k e = cc
at-among (a ∷ set) zero k e = ap (λ b. b || is_among set k) (eq-eqb a k (same_Some a k e))
at-among (a ∷ set) (suc n) k e = elim (cases_Bool (nat_eq a k)) [
  | inl same ↦ ap (λ b. b || is_among set k) same
  | inr other ↦ ap (λ b. b || is_among set k) other ∙ at-among set n k e
]

module _ (A B : Type 0) (f : A → List B) where
  pub at-flat_map : (xs : List A) (n j : ℕ) (x : A) (y : B) → slice_get xs n ≡ Some x → slice_get (f x) j ≡ Some y
      → (q : ℕ) × (slice_get (flat_map f xs) q ≡ Some y)
  at-flat_map [] n j x y e h = cc
  at-flat_map (a ∷ xs) zero j x y e h =
      (j, at-append B (f a) (flat_map f xs) j y (ap (λ z. slice_get (f z) j) (same_Some a x e) ∙ h))
  at-flat_map (a ∷ xs) (suc n) j x y e h = let k = at-flat_map xs n j x y e h in
      (length (f a) + k.0, at-behind B (f a) (flat_map f xs) k.0 ∙ k.1)

  pub flat_map-at : (xs : List A) (q : ℕ) (y : B) → slice_get (flat_map f xs) q ≡ Some y
      → (n : ℕ) × (x : A) × (j : ℕ) × (slice_get xs n ≡ Some x) × (slice_get (f x) j ≡ Some y)
  flat_map-at [] q y e = cc
  flat_map-at (a ∷ xs) q y e = elim (at-append_cases B (f a) (flat_map f xs) q y e) [
    | inl h ↦ (0, a, q, refl, h)
    | inr h ↦ let k = flat_map-at xs h.0 y h.2 in (suc k.0, k.1, k.2, k.3, k.4)
  ]
