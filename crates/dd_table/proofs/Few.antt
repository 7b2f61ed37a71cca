-- A table of labels of one width has at most 2 ^ width of them.
use Rattle.std.proofs.Common.{◌≡◌, ℕ, suc, ◌+◌, ◌^◌, ◌<◌, ◌≤◌, true, false, not, cond, List, [], ◌∷◌, length, map, refl, sym, ◌∙◌, subst, arith, ⊎_elim}
use Rattle.std.specs.Prelude.{◌==◌, Some, slice_get}
use Rattle.std.specs.List.{list_any, AllByRecursion, IsDistinct}
use Rattle.std.specs.Str.{bytes_eq}
use Rattle.std.proofs.lemmas.Slice.Eq.{bytes_eq-Decides}
use Rattle.std.proofs.lemmas.Bool.{eqb-true, ne_eqb, or_cases, cases_Bool, cases_lt}
use Rattle.std.proofs.lemmas.List.{length-map}
use Rattle.std.proofs.lemmas.Map.Steps.{length-le_from_distinct_below}
use Rattle.dd_set.specs.Words.{has, IsPacked}
use Rattle.dd_set.specs.Sets.{value}
use Rattle.dd_set.proofs.Comparing.{same-from_numbers}
use Rattle.dd_set.proofs.Sets.{value-lt, value-same}
use Rattle.dd_table.specs.Labels.{number_of, AllPacked, IsWithoutRepeats}

module _ (width : ℕ) where
  -- packed labels of one value are one
  same_value : (a b : List ℕ) → IsPacked width a → IsPacked width b → value a width ≡ value b width → a ≡ b
  same_value a b pa pb e =
      same-from_numbers width a b pa pb (λ n.
      ⊎_elim (λ low. value-same a b width e n low) (λ high. none a n pa high ∙ sym (none b n pb high)) (cases_lt n width))
    where
      none : (a : List ℕ) (n : ℕ) → IsPacked width a → width ≤ n → has a n ≡ false
      none a n p high = ⊎_elim (λ there. let low = p.within n there in absurd (omega arith)) (λ no. no) (cases_Bool (has a n))

  first : (x : List ℕ) (xs : List (List ℕ)) (n : ℕ) (l : List ℕ) → number_of (x ∷ xs) l ≡ suc n → (bytes_eq l x ≡ false) × (number_of xs l ≡ n)
  first x xs n l h =
      (elim (bytes_eq l x) as (λ b. cond (not b) (1 + number_of xs l) 0 ≡ suc n → (b ≡ false) × (number_of xs l ≡ n)) [
        | true ↦ λ e. absurd (omega arith)
        | false ↦ λ e. (refl, omega arith)
      ]) h

  apart : (x : List ℕ) (xs : List (List ℕ)) → IsPacked width x → AllPacked width xs → ((n : ℕ) (l : List ℕ) → slice_get xs n ≡ Some l → bytes_eq l x ≡ false) → AllByRecursion (λ y. (value x width == y) ≡ false) (map (λ l. value l width) xs)
  apart x [] p all h = tt
  apart x (y ∷ ys) p all h = (
    ne_eqb (value x width) (value y width) (λ e.
        let same : x ≡ y = same_value x y p (all 0 y refl) e in
        differ (sym (h 0 y refl) ∙ (bytes_eq-Decides y x).1 (sym same))),
    apart x ys p (λ n l at. all (suc n) l at) (λ n l at. h (suc n) l at),
  )
    where
      differ : false ≡ true → ⊥
      differ e = cc

  values-distinct : (labels : List (List ℕ)) → AllPacked width labels → IsWithoutRepeats labels → IsDistinct ◌==◌ (map (λ l. value l width) labels)
  unfolding IsDistinct
  values-distinct [] all h = tt
  values-distinct (x ∷ xs) all h =
      (apart x xs (all 0 x refl) (λ n l at. all (suc n) l at) (λ n l at. (first x xs n l (h (suc n) l at)).0), values-distinct xs (λ n l at. all (suc n) l at) (λ n l at. (first x xs n l (h (suc n) l at)).1))

  values-below : (labels : List (List ℕ)) (q : ℕ) → list_any (λ y. q == y) (map (λ l. value l width) labels) ≡ true → q < 2 ^ width
  values-below [] q h = cc
  values-below (x ∷ xs) q h =
      ⊎_elim
      (λ here. let e = eqb-true q (value x width) here in let low = value-lt x width in omega arith)
      (λ later. values-below xs q later)
      (or_cases (q == value x width) (list_any (λ y. q == y) (map (λ l. value l width) xs)) h)

  pub labels-few : (labels : List (List ℕ)) → AllPacked width labels → IsWithoutRepeats labels → length labels ≤ 2 ^ width
  labels-few labels all h =
      subst (λ n. n ≤ 2 ^ width) (length-map labels (λ l. value l width)) (length-le_from_distinct_below (map (λ l. value l width) labels) (2 ^ width) (values-distinct labels all h) (λ q. values-below labels q))
