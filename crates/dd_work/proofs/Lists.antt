-- One item of a list is changed, or one is added.
use Rattle.std.proofs.Common.{◌≡◌, ◌∙◌, ◌+◌, ◌||◌, ℕ, zero, suc, Bool, false, cond, List, [], ◌∷◌, ◌++◌, take, length, count_by, sum_by, Some, ap, refl, arith}
use Rattle.std.specs.List.{slice_get, list_any}
use Rattle.std.specs.Option.{option_map_or}
use Rattle.std.proofs.lemmas.List.Sums.{sum_by-append, sum_by-cons}
use Rattle.std.proofs.lemmas.Option.{same_Some}
use Rattle.dd_board.specs.View.{change_at}

module _ {A B : Type 0} (f : A → A) (g : A → B) (same : (a : A) → g (f a) ≡ g a) where
  pub read-changed : (xs : List A) (t u : ℕ) (d : B) → option_map_or g (slice_get (change_at f xs t) u) d ≡ option_map_or g (slice_get xs u) d
  read-changed [] t u d = refl
  read-changed (x ∷ xs) zero zero d = same x
  read-changed (x ∷ xs) zero (suc u) d = refl
  read-changed (x ∷ xs) (suc t) zero d = refl
  read-changed (x ∷ xs) (suc t) (suc u) d = read-changed xs t u d

pub sum-changed : {A : Type 0} (f : A → A) (g : A → ℕ) (xs : List A) (n : ℕ) (a : A) → slice_get xs n ≡ Some a
    → sum_by g (change_at f xs n) + g a ≡ sum_by g xs + g (f a)
sum-changed f g [] n a e = cc
sum-changed f g (x ∷ xs) zero a e =
    let same : x ≡ a = same_Some x a e in
    let new = sum_by-cons g (f x) xs in
    let old = sum_by-cons g x xs in
    let first : g x ≡ g a = ap g same in
    let last : g (f x) ≡ g (f a) = ap (λ y. g (f y)) same in
    omega (arith, new, old, first, last)
sum-changed f g (x ∷ xs) (suc n) a e =
    let rest = sum-changed f g xs n a e in
    let new = sum_by-cons g x (change_at f xs n) in
    let old = sum_by-cons g x xs in
    omega (arith, rest, new, old)

pub count-end : {A : Type 0} (p : A → Bool) (xs : List A) (x : A) → count_by p (xs ++ x ∷ []) ≡ count_by p xs + cond (p x) 1 0
count-end p xs x = sum_by-append (λ y. cond (p y) 1 0) xs (x ∷ [])
    ∙ ap (λ n. count_by p xs + n) (let z : 0 + cond (p x) 1 0 ≡ cond (p x) 1 0 = omega arith in z)

pub any-end : {A : Type 0} (p : A → Bool) (xs : List A) (x : A) → p x ≡ false → list_any p (xs ++ x ∷ []) ≡ list_any p xs
any-end p [] x e = ap (λ b. b || false) e
any-end p (y ∷ xs) x e = ap (λ b. p y || b) (any-end p xs x e)

pub take-all : {A : Type 0} (xs : List A) → take (length xs) xs ≡ xs
take-all [] = refl
take-all (x ∷ xs) = ap (λ ys. x ∷ ys) (take-all xs)
