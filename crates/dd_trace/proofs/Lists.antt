-- Places in lists, and tests that pass on more.
use Rattle.std.proofs.Common.{◌≡◌, ◌<◌, ◌&&◌, ℕ, zero, suc, Bool, true, List, [], ◌∷◌, map, take, length, Option, None, Some, ap, refl, subst, inl, inr, arith}
use Rattle.std.specs.List.{slice_get, list_all}
use Rattle.std.proofs.lemmas.Bool.{and_parts, and_from}
use Rattle.std.proofs.lemmas.Option.{same_Some}
use Rattle.dd_concept.specs.declared.concept.Concept.{Concept}
use Rattle.dd_concept.specs.Same.{has, is_within}
use Rattle.dd_concept.proofs.Sets.{has-cases}
use Rattle.dd_task.specs.Lines.{is_there}

module _ (A : Type 0) where
  pub there-is : (o : Option A) (t : A → Bool) → is_there o t ≡ true → (x : A) × (o ≡ Some x) × (t x ≡ true)
  there-is None t e = cc
  there-is (Some x) t e = (x, refl, e)

  pub there-more : (o : Option A) (s t : A → Bool) → ((x : A) → s x ≡ true → t x ≡ true) → is_there o s ≡ true → is_there o t ≡ true
  there-more None s t h e = cc
  there-more (Some x) s t h e = h x e

  pub at-take : (xs : List A) (q m : ℕ) (x : A) → slice_get xs m ≡ Some x → m < q → slice_get (take q xs) m ≡ Some x
  at-take [] q m x e lt = cc
  at-take (a ∷ xs) zero m x e lt = absurd (omega (arith, lt))
  at-take (a ∷ xs) (suc q) zero x e lt = e
  at-take (a ∷ xs) (suc q) (suc m) x e lt = at-take xs q m x e (omega (arith, lt))

  pub taken-at : (xs : List A) (q m : ℕ) (x : A) → slice_get (take q xs) m ≡ Some x → (slice_get xs m ≡ Some x) × (m < q)
  taken-at [] zero m x e = cc
  taken-at [] (suc q) m x e = cc
  taken-at (a ∷ xs) zero m x e = cc
  taken-at (a ∷ xs) (suc q) zero x e = (e, omega arith)
  taken-at (a ∷ xs) (suc q) (suc m) x e = let h = taken-at xs q m x e in (h.0, let lt = h.1 in omega (arith, lt))

module _ (A B : Type 0) (f : A → B) where
  pub map-at : (xs : List A) (n : ℕ) (y : B) → slice_get (map f xs) n ≡ Some y → (x : A) × (slice_get xs n ≡ Some x) × (f x ≡ y)
  map-at [] n y e = cc
  map-at (a ∷ xs) zero y e = (a, refl, same_Some (f a) y e)
  map-at (a ∷ xs) (suc n) y e = map-at xs n y e

  pub at-map : (xs : List A) (n : ℕ) (x : A) → slice_get xs n ≡ Some x → slice_get (map f xs) n ≡ Some (f x)
  at-map [] n x e = cc
  at-map (a ∷ xs) zero x e = ap (λ y. Some (f y)) (same_Some a x e)
  at-map (a ∷ xs) (suc n) x e = at-map xs n x e

  pub map-length : (xs : List A) → length (map f xs) ≡ length xs
  map-length [] = refl
  map-length (a ∷ xs) = ap suc (map-length xs)

pub and-more : (a b c d : Bool) → (a ≡ true → c ≡ true) → (b ≡ true → d ≡ true) → (a && b) ≡ true → (c && d) ≡ true
and-more a b c d f g e = let h = and_parts a b e in and_from c d (f h.0) (g h.1)

-- what passes on each concept of a label passes on each of a smaller one
module _ (test : Concept → Bool) where
  all-has : (label : List Concept) (c : Concept) → list_all test label ≡ true → has label c ≡ true → test c ≡ true
  all-has [] c all there = cc
  all-has (d ∷ label) c all there =
      let h = and_parts (test d) (list_all test label) all in
      elim (has-cases c d label there) [
        | inl e ↦ subst (λ x. test x ≡ true) e h.0
        | inr t ↦ all-has label c h.1 t
      ]

  pub all-within : (a b : List Concept) → is_within a b ≡ true → list_all test b ≡ true → list_all test a ≡ true
  all-within [] b w all = refl
  all-within (c ∷ a) b w all =
      let h = and_parts (has b c) (is_within a b) w in
      and_from (test c) (list_all test a) (all-has b c all h.0) (all-within a b h.1 all)
