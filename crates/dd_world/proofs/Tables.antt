-- Equations of tests.
use Rattle.std.proofs.Common.{◌≡◌, Bool, true, false, not, ◌||◌, cond, Option, None, Some, refl, ◌⊎◌, inl, inr}
use Rattle.std.specs.Bool.{Decides}
use Rattle.std.proofs.lemmas.Bool.Decides.{Decides-like}
use Rattle.std.specs.Option.{option_map, option_or}
use Rattle.std.proofs.lemmas.Option.{same_Some}

pub not_passing : (a b : Bool) → (not a || b) ≡ false → (a ≡ true) × (b ≡ false)
not_passing true b e = (refl, e)
not_passing false b e = cc

implied : (a b : Bool) → Decides (not a || b) (a ≡ true → b ≡ true)
implied true b = (λ e _. e, λ f. f refl)
implied false b = (λ e f. cc, λ f. refl)

pub decides_implied : {Q : Type 0} (a b : Bool) → Decides b Q → Decides (not a || b) (a ≡ true → Q)
decides_implied a b d = Decides-like (not a || b) (λ f e. d.0 (f e)) (λ f e. d.1 (f e)) (implied a b)

pub cond_else_none : {A : Type 0} (b : Bool) (x : A) → cond b None (Some x) ≡ None → b ≡ true
cond_else_none true x e = refl
cond_else_none false x e = cc

pub first_at_some : {A : Type 0} (a b : Option A) (x : A) → a ≡ Some x → option_or a b ≡ Some x
first_at_some None b x e = cc
first_at_some (Some y) b x e = e

pub first_after_none : {A : Type 0} (a b o : Option A) → a ≡ None → b ≡ o → option_or a b ≡ o
first_after_none None b o e f = f
first_after_none (Some x) b o e f = cc

pub first_some : {A : Type 0} (a b : Option A) (x : A) → option_or a b ≡ Some x → (a ≡ Some x) ⊎ ((a ≡ None) × (b ≡ Some x))
first_some None b x e = inr (refl, e)
first_some (Some y) b x e = inl e

pub map_some : {A B : Type 0} (f : A → B) (a : Option A) (y : B) → option_map f a ≡ Some y → (x : A) × (a ≡ Some x) × (f x ≡ y)
map_some f None y e = cc
map_some f (Some x) y e = (x, refl, same_Some (f x) y e)

pub cond_else_some : {A : Type 0} (b : Bool) (x y : A) → cond b None (Some x) ≡ Some y → (b ≡ false) × (x ≡ y)
cond_else_some true x y e = cc
cond_else_some false x y e = (refl, same_Some x y e)

-- where the first test fails and the second does not, their implication fails
pub fails_implied : (a b : Bool) → a ≡ true → b ≡ false → (not a || b) ≡ false
fails_implied true b e f = f
fails_implied false b e f = cc
