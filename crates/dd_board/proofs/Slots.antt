-- Changes of a session's slots, and of its tasks with them.
use Rattle.std.proofs.Common.{ap₂, ◌≡◌, ◌∙◌, ℕ, zero, suc, ◌+◌, ◌<◌, ◌≤◌, Bool, true, false, cond, ◌||◌, List, [], ◌∷◌, map, length, Option, Some, ap, refl, sym, arith, set, get_or, option_map, count_by}
use Rattle.std.specs.List.{slice_get, list_any}
use Rattle.std.proofs.lemmas.Option.{none-some, same_Some}
use Rattle.std.proofs.lemmas.List.Sums.{sum_by-cons}
use Rattle.dd_board.specs.declared.session.Holding.{Holding}
use Rattle.dd_board.specs.declared.session.Slot.{Slot}
use Rattle.dd_board.specs.View.{change_at}
use Rattle.dd_board.specs.Sessions.{holder_of, task_of, with_holder}

-- a slot that is written
pub set-changes : {A : Type 0} (f : A → A) (xs : List A) (n : ℕ) (d : A) → n < length xs → set xs n (f (get_or xs n d)) ≡ change_at f xs n
set-changes f [] n d low = absurd (omega (arith, low))
set-changes f (x ∷ xs) zero d low = refl
set-changes f (x ∷ xs) (suc n) d low = ap (λ ys. x ∷ ys) (set-changes f xs n d (omega (arith, low)))

-- what is made of each item is changed with it
pub map-changed : {A B : Type 0} (v : A → B) (f : A → A) (g : B → B) → ((x : A) → v (f x) ≡ g (v x)) → (xs : List A) (n : ℕ)
    → map v (change_at f xs n) ≡ change_at g (map v xs) n
map-changed v f g same [] n = refl
map-changed v f g same (x ∷ xs) zero = ap (λ y. y ∷ map v xs) (same x)
map-changed v f g same (x ∷ xs) (suc n) = ap (λ ys. v x ∷ ys) (map-changed v f g same xs n)

-- at one place alone the two changes have to agree
pub map-changed-at : {A B : Type 0} (v : A → B) (f : A → A) (g : B → B) (xs : List A) (n : ℕ) (x : A) → slice_get xs n ≡ Some x → v (f x) ≡ g (v x)
    → map v (change_at f xs n) ≡ change_at g (map v xs) n
map-changed-at v f g [] n x at same = refl
map-changed-at v f g (y ∷ xs) zero x at same =
    let e : y ≡ x = same_Some y x at in ap (λ z. z ∷ map v xs) (ap (λ z. v (f z)) e ∙ (same ∙ ap (λ z. g (v z)) (sym e)))
map-changed-at v f g (y ∷ xs) (suc n) x at same = ap (λ ys. v y ∷ ys) (map-changed-at v f g xs n x at same)

abbrev pub one : Bool → ℕ
one true = 1
one false = 0

one-is : (b : Bool) → cond b 1 0 ≡ one b
one-is true = refl
one-is false = refl

-- how many pass, after a change
pub count-changed : {A : Type 0} (p : A → Bool) (f : A → A) (xs : List A) (n : ℕ) (x : A) → slice_get xs n ≡ Some x
    → count_by p (change_at f xs n) + one (p x) ≡ count_by p xs + one (p (f x))
count-changed p f [] n x at = absurd (none-some x at)
count-changed p f (y ∷ xs) zero x at =
    let e : y ≡ x = same_Some y x at in
    let left : count_by p (change_at f (y ∷ xs) 0) ≡ one (p (f y)) + count_by p xs = sum_by-cons (λ z. cond (p z) 1 0) (f y) xs ∙ ap (λ n. n + count_by p xs) (one-is (p (f y))) in
    let right : count_by p (y ∷ xs) ≡ one (p y) + count_by p xs = sum_by-cons (λ z. cond (p z) 1 0) y xs ∙ ap (λ n. n + count_by p xs) (one-is (p y)) in
    let old : one (p y) ≡ one (p x) = ap (λ z. one (p z)) e in
    let new : one (p (f y)) ≡ one (p (f x)) = ap (λ z. one (p (f z))) e in
    omega (arith, left, right, old, new)
count-changed p f (y ∷ xs) (suc n) x at =
    let left : count_by p (change_at f (y ∷ xs) (suc n)) ≡ one (p y) + count_by p (change_at f xs n) = sum_by-cons (λ z. cond (p z) 1 0) y (change_at f xs n) ∙ ap (λ k. k + count_by p (change_at f xs n)) (one-is (p y)) in
    let right : count_by p (y ∷ xs) ≡ one (p y) + count_by p xs = sum_by-cons (λ z. cond (p z) 1 0) y xs ∙ ap (λ n. n + count_by p xs) (one-is (p y)) in
    let rest = count-changed p f xs n x at in
    omega (arith, left, right, rest)

pub task-with : (h : Option Holding) (slot : Slot) → task_of (with_holder h slot) ≡ record (task_of slot) { holder = option_map holder_of h }
task-with h slot = refl

-- what a change leaves alone stays
pub map-unchanged : {A B : Type 0} (v : A → B) (f : A → A) → ((x : A) → v (f x) ≡ v x) → (xs : List A) (n : ℕ) → map v (change_at f xs n) ≡ map v xs
map-unchanged v f same [] n = refl
map-unchanged v f same (x ∷ xs) zero = ap (λ y. y ∷ map v xs) (same x)
map-unchanged v f same (x ∷ xs) (suc n) = ap (λ ys. v x ∷ ys) (map-unchanged v f same xs n)

pub any-same : {A : Type 0} (f g : A → Bool) → ((x : A) → f x ≡ g x) → (xs : List A) → list_any f xs ≡ list_any g xs
any-same f g same [] = refl
any-same f g same (x ∷ xs) = ap₂ (λ (a b : Bool). a || b) (same x) (any-same f g same xs)

-- no change past the end
pub past-end : {A : Type 0} (f : A → A) (xs : List A) (n : ℕ) → length xs ≤ n → change_at f xs n ≡ xs
past-end f [] n le = refl
past-end f (x ∷ xs) zero le = absurd (omega (arith, le))
past-end f (x ∷ xs) (suc n) le = ap (λ ys. x ∷ ys) (past-end f xs n (omega (arith, le)))

pub item-at : {A : Type 0} (xs : List A) (n : ℕ) → n < length xs → (x : A) × (slice_get xs n ≡ Some x)
item-at [] n lt = absurd (omega (arith, lt))
item-at (x ∷ xs) zero lt = (x, refl)
item-at (x ∷ xs) (suc n) lt = item-at xs n (omega (arith, lt))
