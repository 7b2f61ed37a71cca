-- What passes among the items of a list.
use Rattle.std.proofs.Common.{◌≡◌, ◌||◌, ◌&&◌, ℕ, zero, suc, Bool, true, false, List, [], ◌∷◌, Contains, Option, None, Some, ap, refl, subst, sym, inl, inr}
use Rattle.std.specs.List.{slice_get, list_any}
use Rattle.std.proofs.lemmas.Bool.{false≢true, or_cases, or_left, or_right}
use Rattle.std.proofs.lemmas.Option.{get_or_from_slice_get, same_Some, slice_get_within}
use Rattle.dd_concept.specs.declared.concept.Concept.{Concept}
use Rattle.dd_concept.specs.Same.{has}
use Rattle.dd_concept.proofs.Sets.{has-cases}
use Rattle.dd_peer.specs.Relevant.{is_in}
use Rattle.dd_task.specs.Lines.{is_there}
use Rattle.dd_task.proofs.Places.{among-at}

module _ (A : Type 0) where
  pub there-is : (o : Option A) (test : A → Bool) → is_there o test ≡ true → (x : A) × (o ≡ Some x) × (test x ≡ true)
  there-is None test e = cc
  there-is (Some x) test e = (x, refl, e)

  -- an item that passes
  pub one-of : (test : A → Bool) (xs : List A) → list_any test xs ≡ true → (k : ℕ) × (x : A) × (slice_get xs k ≡ Some x) × (test x ≡ true)
  one-of test [] e = absurd (false≢true e)
  one-of test (x ∷ xs) e = elim (or_cases (test x) (list_any test xs) e) [
    | inl h ↦ (zero, x, refl, h)
    | inr t ↦ let found = one-of test xs t in (suc found.0, found.1, found.2, found.3)
  ]

-- a concept of the list that passes is one of its items
pub any-has : (test : Concept → Bool) (xs : List Concept) (c : Concept) → has xs c ≡ true → test c ≡ true → list_any test xs ≡ true
any-has test [] c h e = absurd (false≢true h)
any-has test (d ∷ ds) c h e = elim (has-cases c d ds h) [
  | inl is ↦ or_left (test d) (list_any test ds) (subst (λ x. test x ≡ true) (sym is) e)
  | inr m ↦ or_right (test d) (list_any test ds) (any-has test ds c m e)
]

-- a number that the test finds is one of the list
pub in-contains : (list : List ℕ) (i : ℕ) → is_in list i ≡ true → Contains list i
in-contains list i h =
    let at = among-at list i h in
    (at.0, slice_get_within list at.0 i at.1, get_or_from_slice_get list at.0 i i at.1)

-- a label of one concept
pub only-one : (c d : Concept) → has (c ∷ []) d ≡ true → c ≡ d
only-one c d h = elim (has-cases d c [] h) [
  | inl is ↦ is
  | inr none ↦ absurd (false≢true none)
]
