-- What a loop over the numbers of a label, or over a list, has looked at.
use Rattle.std.proofs.Common.{◌≡◌, ◌∙◌, ◌||◌, ◌&&◌, ◌<◌, ◌≤◌, ◌+◌, sym, refl, ap, subst, ℕ, zero, suc, Bool, true, false, not, List, [], ◌∷◌, length, slice_get, None, Some, inl, inr, arith}
use Rattle.std.specs.List.{list_any, list_all}
use Rattle.std.proofs.lemmas.Bool.{false≢true, or_cases, and_from, and_parts, cases_lt, false_from_ne_true}
use Rattle.std.proofs.lemmas.Option.{same_Some, slice_get_within}
use Rattle.dd_set.specs.Words.{has, IsNext}
use Rattle.dd_rules.specs.declared.shape.Shape.{Shape}
use Rattle.dd_rules.specs.declared.shape.Shape.TheVariants as shape
use Rattle.dd_rules.specs.Numbers.{any_at, decides_or, keeps_and}
use Rattle.dd_rules.proofs.Numbered.{any_at-some}

-- each item of the list has the property, with its place
abbrev pub Each : {A : Type 0} → (ℕ → A → Type 0) → List A → Type 0
Each P xs = (n : ℕ) (x : _) → slice_get xs n ≡ Some x → P n x

-- each item before the bound has it
abbrev pub EachBelow : {A : Type 0} → (ℕ → A → Type 0) → List A → ℕ → Type 0
EachBelow P xs bound = (n : ℕ) (x : _) → n < bound → slice_get xs n ≡ Some x → P n x

pub each-start : {A : Type 0} (P : ℕ → A → Type 0) (xs : List A) → EachBelow P xs 0
each-start P xs n x low e = absurd (omega arith)

-- one place further
pub each-more : {A : Type 0} (P : ℕ → A → Type 0) (xs : List A) (k : ℕ) → EachBelow P xs k → ((x : A) → slice_get xs k ≡ Some x → P k x) → EachBelow P xs (k + 1)
each-more P xs k h at n x low e = elim (cases_lt n k) [
  | inl before ↦ h n x before e
  | inr after ↦
      let here : n ≡ k = omega arith in
      subst (λ m. P m x) (sym here) (at x (ap (slice_get xs) (sym here) ∙ e))
]

pub each-all : {A : Type 0} (P : ℕ → A → Type 0) (xs : List A) (k : ℕ) → length xs ≤ k → EachBelow P xs k → Each P xs
each-all P xs k past h n x e = let low = slice_get_within xs n x e in h n x (omega arith) e

-- what is not in the label has the property, and so has what the label's next number is
pub walk-next : {A : Type 0} (P : ℕ → A → Type 0) (words : List ℕ) (xs : List A) (from m : ℕ) → ((n : ℕ) (x : A) → has words n ≡ false → P n x)
    → IsNext words from (Some m) → EachBelow P xs from → ((x : A) → slice_get xs m ≡ Some x → P m x) → EachBelow P xs (m + 1)
walk-next P words xs from m idle next h at n x low e = elim (cases_lt n from) [
  | inl before ↦ h n x before e
  | inr after ↦ elim (cases_lt n m) [
    | inl between ↦ idle n x (next.2 n after between)
    | inr last ↦
        let here : n ≡ m = omega arith in
        subst (λ k. P k x) (sym here) (at x (ap (slice_get xs) (sym here) ∙ e))
  ]
]

pub walk-end : {A : Type 0} (P : ℕ → A → Type 0) (words : List ℕ) (xs : List A) (from : ℕ) → ((n : ℕ) (x : A) → has words n ≡ false → P n x)
    → IsNext words from None → EachBelow P xs from → Each P xs
walk-end P words xs from idle next h n x e = elim (cases_lt n from) [
  | inl before ↦ h n x before e
  | inr after ↦ idle n x (next n after)
]

-- ---- tests over a whole list

pub any_at-none : {A : Type 0} (f : ℕ → A → Bool) (xs : List A) → Each (λ n x. f n x ≡ false) xs → any_at f xs ≡ false
any_at-none f xs h = false_from_ne_true (any_at f xs) (λ t. let found = any_at-some f xs t in false≢true (sym (h found.0 found.1 found.2) ∙ found.3))

pub list_all-from : {A : Type 0} (f : A → Bool) (xs : List A) → Each (λ n x. f x ≡ true) xs → list_all f xs ≡ true
list_all-from f [] h = refl
list_all-from f (x ∷ xs) h = and_from (f x) (list_all f xs) (h zero x refl) (list_all-from f xs (λ n y e. h (suc n) y e))

pub list_all-each : {A : Type 0} (f : A → Bool) (xs : List A) → list_all f xs ≡ true → Each (λ n x. f x ≡ true) xs
list_all-each f [] h n x e = cc
list_all-each f (y ∷ ys) h zero x e = subst (λ z. f z ≡ true) (same_Some y x e) (and_parts (f y) (list_all f ys) h).0
list_all-each f (y ∷ ys) h (suc n) x e = list_all-each f ys (and_parts (f y) (list_all f ys) h).1 n x e

-- ---- what is not in the label is kept and decided

holds-idle : (a b : Bool) → a ≡ false → (not a || b) ≡ true
holds-idle true b h = cc
holds-idle false b h = refl

pub idle_keeps_and : (p : ℕ → Bool) (n : ℕ) (s : Shape) → p n ≡ false → keeps_and p n s ≡ true
idle_keeps_and p n (shape.And a b) h = holds-idle (p n) (p a && p b) h
idle_keeps_and p n _ h = refl

pub idle_decides_or : (p : ℕ → Bool) (n : ℕ) (s : Shape) → p n ≡ false → decides_or p n s ≡ true
idle_decides_or p n (shape.Or a b) h = holds-idle (p n) (p a || p b) h
idle_decides_or p n _ h = refl

pub list_any-some : {A : Type 0} (f : A → Bool) (xs : List A) → list_any f xs ≡ true → (n : ℕ) × (x : A) × (slice_get xs n ≡ Some x) × (f x ≡ true)
list_any-some f [] h = absurd (false≢true h)
list_any-some f (x ∷ xs) h = elim (or_cases (f x) (list_any f xs) h) [
  | inl t ↦ (zero, x, refl, t)
  | inr t ↦ let found = list_any-some f xs t in (suc found.0, found.1, found.2, found.3)
]
