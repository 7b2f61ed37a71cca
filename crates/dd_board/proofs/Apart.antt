-- Lists in which no item is the same as one after it, and how long they can be.
use Rattle.std.proofs.Common.{◌≡◌, ◌∙◌, ℕ, suc, ◌≤◌, Bool, true, false, cond, ◌||◌, List, [], ◌∷◌, ◌++◌, length, filter, Some, ap, refl, subst, sym, inl, inr}
use Rattle.std.specs.Prelude.{⊤}
use Rattle.std.specs.Cmp.{IsEquivalence}
use Rattle.std.specs.List.{slice_get, list_any, AllByRecursion, IsDistinct}
use Rattle.std.proofs.lemmas.Bool.{cases_Bool}
use Rattle.std.proofs.lemmas.Map.Made.{length-le_from_is_member}
use Rattle.std.proofs.lemmas.List.Folds.{list_any-append}

pub or_none : (a b : Bool) → (a || b) ≡ false → (a ≡ false) × (b ≡ false)
or_none true b h = cc
or_none false b h = (refl, h)

pub none_or : (a b : Bool) → a ≡ false → b ≡ false → (a || b) ≡ false
none_or true b h k = cc
none_or false b h k = k

module _ {K : Type 0} (e : K → K → Bool) where
  abbrev pub AreApart : List K → Type 0
  AreApart [] = ⊤
  AreApart (x ∷ xs) = (list_any (e x) xs ≡ false) × AreApart xs

  any-filter : (q p : K → Bool) (xs : List K) → list_any q xs ≡ false → list_any q (filter p xs) ≡ false
  any-filter q p [] h = refl
  any-filter q p (x ∷ xs) h =
      let parts = or_none (q x) (list_any q xs) h in
      elim (cases_Bool (p x)) [
        | inl t ↦ subst (λ b. list_any q (cond b (x ∷ filter p xs) (filter p xs)) ≡ false) (sym t)
            (none_or (q x) (list_any q (filter p xs)) parts.0 (any-filter q p xs parts.1))
        | inr f ↦ subst (λ b. list_any q (cond b (x ∷ filter p xs) (filter p xs)) ≡ false) (sym f) (any-filter q p xs parts.1)
      ]

  pub apart-filter : (p : K → Bool) (xs : List K) → AreApart xs → AreApart (filter p xs)
  apart-filter p [] h = tt
  apart-filter p (x ∷ xs) h = elim (cases_Bool (p x)) [
    | inl t ↦ subst (λ b. AreApart (cond b (x ∷ filter p xs) (filter p xs))) (sym t) (any-filter (e x) p xs h.0, apart-filter p xs h.1)
    | inr f ↦ subst (λ b. AreApart (cond b (x ∷ filter p xs) (filter p xs))) (sym f) (apart-filter p xs h.1)
  ]

  pub apart-append : (xs ys : List K) → AreApart xs → AreApart ys
      → ((k : ℕ) (x : K) → slice_get xs k ≡ Some x → list_any (e x) ys ≡ false) → AreApart (xs ++ ys)
  apart-append [] ys h k cross = k
  apart-append (x ∷ xs) ys h k cross = (
    list_any-append (e x) xs ys ∙ none_or (list_any (e x) xs) (list_any (e x) ys) h.0 (cross 0 x refl),
    apart-append xs ys h.1 k (λ n. cross (suc n)),
  )

  all-other : (q : K → Bool) (xs : List K) → list_any q xs ≡ false → AllByRecursion (λ y. q y ≡ false) xs
  all-other q [] h = tt
  all-other q (x ∷ xs) h = let parts = or_none (q x) (list_any q xs) h in (parts.0, all-other q xs parts.1)

  apart-distinct : (xs : List K) → AreApart xs → IsDistinct e xs
  unfolding IsDistinct
  apart-distinct [] h = tt
  apart-distinct (x ∷ xs) h = (all-other (e x) xs h.0, apart-distinct xs h.1)

  pub place-of : (q : K → Bool) (xs : List K) → list_any q xs ≡ true → (k : ℕ) × (x : K) × (slice_get xs k ≡ Some x) × (q x ≡ true)
  place-of q [] h = cc
  place-of q (x ∷ xs) h = elim (cases_Bool (q x)) [
    | inl t ↦ (0, x, refl, t)
    | inr f ↦ let r = place-of q xs (ap (λ b. b || list_any q xs) (sym f) ∙ h) in (suc r.0, r.1, r.2, r.3)
  ]

  same-any : (q p : K → Bool) → ((x : K) → q x ≡ p x) → (xs : List K) → list_any q xs ≡ list_any p xs
  same-any q p same [] = refl
  same-any q p same (x ∷ xs) = ap (λ b. b || list_any q xs) (same x) ∙ ap (λ b. p x || b) (same-any q p same xs)

  -- such a list is no longer than any that has all its items
  pub apart-few : IsEquivalence e → (xs ys : List K) → AreApart xs
      → ((k : ℕ) (x : K) → slice_get xs k ≡ Some x → list_any (e x) ys ≡ true) → length xs ≤ length ys
  apart-few laws xs ys h all = length-le_from_is_member laws xs ys (apart-distinct xs h) (λ q m.
      let at = place-of (e q) xs m in
      same-any (e q) (e at.1) (λ z. laws.congr q at.1 z at.3) ys ∙ all at.0 at.1 at.2)
