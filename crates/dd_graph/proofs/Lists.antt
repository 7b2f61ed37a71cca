-- What is read in a list after a write or behind a push.
use Rattle.std.proofs.Common.{◌≡◌, ℕ, zero, suc, ◌<◌, ◌≤◌, ◌+◌, List, [], ◌∷◌, ◌++◌, length, Option, Some, None, slice_get, slice_set, Result, Ok, Err, OnOk, OnErr, IfOk, refl, ap, subst, arith}

pub same_Some : {X : Type 0} (x y : X) → Some x ≡ Some y → x ≡ y
same_Some x y e = cc

pub none_is_not : {X : Type 0} (x : X) → None ≡ Some x → ⊥
none_is_not x e = cc

-- what stands at a place below the length
pub place_at : {X : Type 0} (xs : List X) (id : ℕ) → id < length xs → (x : X) × (slice_get xs id ≡ Some x)
place_at [] id h = absurd (omega (arith, h))
place_at (x ∷ xs) zero h = (x, refl)
place_at (x ∷ xs) (suc id) h = place_at xs id (omega (arith, h))

pub get_set_same : {X : Type 0} (xs : List X) (i : ℕ) (y x : X) → slice_get xs i ≡ Some x → slice_get (slice_set xs i y) i ≡ Some y
get_set_same [] i y x h = cc
get_set_same (z ∷ xs) zero y x h = refl
get_set_same (z ∷ xs) (suc i) y x h = get_set_same xs i y x h

pub get_set_other : {X : Type 0} (xs : List X) (i j : ℕ) (y : X) → (j ≡ i → ⊥) → slice_get (slice_set xs i y) j ≡ slice_get xs j
get_set_other [] i j y h = refl
get_set_other (z ∷ xs) zero zero y h = absurd (h refl)
get_set_other (z ∷ xs) zero (suc j) y h = refl
get_set_other (z ∷ xs) (suc i) zero y h = refl
get_set_other (z ∷ xs) (suc i) (suc j) y h = get_set_other xs i j y (λ e. h (ap (λ n. suc n) e))

-- behind a push the old places are as they were, and the new one has what was pushed
pub get_push_old : {X : Type 0} (xs : List X) (y : X) (k : ℕ) (x : X) → slice_get xs k ≡ Some x → slice_get (xs ++ y ∷ []) k ≡ Some x
get_push_old [] y k x h = cc
get_push_old (z ∷ xs) y zero x h = h
get_push_old (z ∷ xs) y (suc k) x h = get_push_old xs y k x h

pub get_push_new : {X : Type 0} (xs : List X) (y : X) → slice_get (xs ++ y ∷ []) (length xs) ≡ Some y
get_push_new [] y = refl
get_push_new (z ∷ xs) y = get_push_new xs y

-- so what stands there is one or the other
pub get_push : {X : Type 0} (P : ℕ → X → Type 0) (xs : List X) (y : X) → ((k : ℕ) (x : X) → slice_get xs k ≡ Some x → P k x) → P (length xs) y
    → (k : ℕ) (x : X) → slice_get (xs ++ y ∷ []) k ≡ Some x → P k x
get_push P [] y old new zero x h = subst (P 0) (same_Some y x h) new
get_push P [] y old new (suc k) x h = absurd (none_is_not x h)
get_push P (z ∷ xs) y old new zero x h = old 0 x h
get_push P (z ∷ xs) y old new (suc k) x h = get_push (λ n. P (suc n)) xs y (λ n. old (suc n)) new k x h

-- a claim for each result
pub on_result : {T E : Type 0} (r : Result T E) (P Q G : Type 0) → OnOk r P → OnErr r Q → (P → G) → (Q → G) → G
on_result (Ok x) P Q G p q f g = f p
on_result (Err e) P Q G p q f g = g q

pub ok_map : {T E : Type 0} (r : Result T E) (P Q : T → Type 0) → IfOk r P → ((x : T) → P x → Q x) → IfOk r Q
ok_map (Ok x) P Q h f = f x h
ok_map (Err e) P Q h f = tt
