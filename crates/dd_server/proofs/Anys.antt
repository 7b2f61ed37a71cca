-- Some item of a list passes a test.
use Rattle.std.proofs.Common.{◌≡◌, ◌∙◌, ℕ, zero, suc, Bool, true, false, ◌||◌, List, [], ◌∷◌, Some, ap, refl, sym, inl, inr}
use Rattle.std.specs.List.{list_any, slice_get}
use Rattle.std.proofs.lemmas.Bool.{cases_Bool}
use Rattle.std.proofs.lemmas.Option.{same_Some}

pub any-found : (A : Type 0) (p : A → Bool) (xs : List A) → list_any p xs ≡ true → (k : ℕ) × (x : A) × (slice_get xs k ≡ Some x) × (p x ≡ true)
any-found A p [] e = cc
any-found A p (a ∷ xs) e = elim (cases_Bool (p a)) [
  | inl passes ↦ (0, a, refl, passes)
  | inr fails ↦ let h = any-found A p xs (ap (λ b. b || list_any p xs) (sym fails) ∙ e) in (suc h.0, h.1, h.2, h.3)
]

pub any-at : (A : Type 0) (p : A → Bool) (xs : List A) (k : ℕ) (x : A) → slice_get xs k ≡ Some x → p x ≡ true → list_any p xs ≡ true
any-at A p [] k x e h = cc
any-at A p (a ∷ xs) zero x e h = ap (λ b. b || list_any p xs) (ap p (same_Some a x e) ∙ h)
any-at A p (a ∷ xs) (suc k) x e h = elim (cases_Bool (p a)) [
  | inl passes ↦ ap (λ b. b || list_any p xs) passes
  | inr fails ↦ ap (λ b. b || list_any p xs) fails ∙ any-at A p xs k x e h
]
