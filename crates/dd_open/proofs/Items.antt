-- What stands in a list, and what passes a test.
use Rattle.std.proofs.Common.{◌≡◌, ◌∙◌, refl, ap, subst, ℕ, zero, suc, Bool, true, List, [], ◌∷◌, map, Contains, slice_get, Some, inl, inr}
use Rattle.std.specs.List.{list_any, list_all}
use Rattle.std.proofs.lemmas.Bool.{false≢true, and_parts, or_cases}
use Rattle.std.proofs.lemmas.Option.{same_Some, slice_get_within, slice_get-get_or, get_or_from_slice_get}

-- an item of the images is that of an item
pub get-map : {A B : Type 0} (f : A → B) (xs : List A) (n : ℕ) (y : B) → slice_get (map f xs) n ≡ Some y → (x : A) × (slice_get xs n ≡ Some x) × (f x ≡ y)
get-map f [] n y e = cc
get-map f (x ∷ xs) zero y e = (x, refl, same_Some (f x) y e)
get-map f (x ∷ xs) (suc n) y e = get-map f xs n y e

pub contains-item : {A : Type 0} (xs : List A) (k : ℕ) (x : A) → slice_get xs k ≡ Some x → Contains xs x
contains-item xs k x e = (k, slice_get_within xs k x e, get_or_from_slice_get xs k x x e)

pub contains-place : {A : Type 0} (xs : List A) (x : A) → Contains xs x → (k : ℕ) × (slice_get xs k ≡ Some x)
contains-place xs x m = (m.0, slice_get-get_or xs m.0 x m.1 ∙ ap Some m.2)

-- an item of a list all of whose items pass, and one that passes where some item does
pub all-item : {A : Type 0} (t : A → Bool) (xs : List A) (k : ℕ) (x : A) → list_all t xs ≡ true → slice_get xs k ≡ Some x → t x ≡ true
all-item t [] k x h e = cc
all-item t (y ∷ ys) zero x h e = subst (λ z. t z ≡ true) (same_Some y x e) (and_parts (t y) (list_all t ys) h).0
all-item t (y ∷ ys) (suc k) x h e = all-item t ys k x (and_parts (t y) (list_all t ys) h).1 e

pub any-item : {A : Type 0} (t : A → Bool) (xs : List A) → list_any t xs ≡ true → (k : ℕ) × (x : A) × (slice_get xs k ≡ Some x) × (t x ≡ true)
any-item t [] h = absurd (false≢true h)
any-item t (x ∷ xs) h = elim (or_cases (t x) (list_any t xs) h) [
  | inl e ↦ (zero, x, refl, e)
  | inr e ↦ let found = any-item t xs e in (suc found.0, found.1, found.2, found.3)
]
