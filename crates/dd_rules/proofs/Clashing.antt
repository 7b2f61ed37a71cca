-- A clash by name and the test of clashes.
use Rattle.std.proofs.Common.{◌≡◌, ◌∙◌, ◌||◌, ◌&&◌, ◌==◌, ◌%◌, sym, refl, ap, ap₂, subst, ℕ, suc, Bool, true, false, List, [], ◌∷◌, slice_get, Option, None, Some}
use Rattle.std.specs.Prelude.{IfSome}
use Rattle.std.proofs.lemmas.Bool.{false≢true, and_from, and_parts, eq-eqb, eqb-true, false_from_ne_true}
use Rattle.dd_rules.specs.declared.clash.Clash.{Clash}
use Rattle.dd_rules.specs.declared.clash.Clash.TheVariants as way_out
use Rattle.dd_rules.specs.declared.shape.Shape.{Shape}
use Rattle.dd_rules.specs.declared.shape.Shape.TheVariants as shape
use Rattle.dd_rules.specs.Forced.{is_bottom, is_name, is_clash}
use Rattle.dd_rules.specs.Handled.{IsMarked}
use Rattle.dd_rules.specs.Numbers.{Rules, any_at, clashes_at, has_clash, is_not}
use Rattle.dd_rules.proofs.Numbered.{any_at-some, any_at-from}
use Rattle.dd_rules.proofs.Walks.{any_at-none}

-- a concept of the label passes where its shape does
pub has-shape : (shapes : List Shape) (p : ℕ → Bool) (t : Shape → Bool) (n : ℕ) (s : Shape) → slice_get shapes n ≡ Some s → p n ≡ true → t s ≡ true
    → any_at (λ m z. p m && t z) shapes ≡ true
has-shape shapes p t n s e h k = any_at-from (λ m z. p m && t z) shapes n s e (and_from (p n) (t s) h k)

pub not-passed : (a b : Bool) → b ≡ false → (a && b) ≡ false
not-passed true b e = e
not-passed false b e = refl

pub not-had : (a b : Bool) → a ≡ false → (a && b) ≡ false
not-had true b e = cc
not-had false b e = refl

-- what the label does not have clashes with nothing
pub idle-clash : (r : Rules) (p : ℕ → Bool) (n : ℕ) (s : Shape) → p n ≡ false → clashes_at r p n s ≡ false
idle-clash r p n shape.Bottom h = h
idle-clash r p n (shape.Name a) h = not-had (p n) (any_at (λ m s. p m && is_not a s) r.shapes) h
idle-clash r p n _ h = refl

pub bottom-clash : (r : Rules) (p : ℕ → Bool) (n : ℕ) → slice_get r.shapes n ≡ Some shape.Bottom → p n ≡ true → is_clash r p way_out.Bottom ≡ true
bottom-clash r p n e h = has-shape r.shapes p is_bottom n shape.Bottom e h refl

pub name-clash : (r : Rules) (p : ℕ → Bool) (n a : ℕ) → slice_get r.shapes n ≡ Some (shape.Name a) → p n ≡ true → any_at (λ m s. p m && is_not a s) r.shapes ≡ true
    → is_clash r p (way_out.Name a) ≡ true
name-clash r p n a e h k = and_from (any_at (λ m s. p m && is_name a s) r.shapes) (any_at (λ m s. p m && is_not a s) r.shapes)
    (has-shape r.shapes p (is_name a) n (shape.Name a) e h (eq-eqb a a refl)) k

clash-bottom : (r : Rules) (p : ℕ → Bool) (n : ℕ) (s : Shape) → (p n && is_bottom s) ≡ true → clashes_at r p n s ≡ true
clash-bottom r p n shape.Bottom h = (and_parts (p n) true h).0
clash-bottom r p n _ h = absurd (false≢true (and_parts (p n) false h).1)

clash-name : (r : Rules) (p : ℕ → Bool) (a n : ℕ) (s : Shape) → (p n && is_name a s) ≡ true → any_at (λ m z. p m && is_not a z) r.shapes ≡ true → clashes_at r p n s ≡ true
clash-name r p a n (shape.Name b) h k =
    let both = and_parts (p n) (a == b) h in
    and_from (p n) (any_at (λ m z. p m && is_not b z) r.shapes) both.0 (subst (λ c. any_at (λ m z. p m && is_not c z) r.shapes ≡ true) (eqb-true a b both.1) k)
clash-name r p a n _ h k = absurd (false≢true (and_parts (p n) false h).1)

-- a clash by name is a clash
pub clash-clashes : (r : Rules) (p : ℕ → Bool) (c : Clash) → is_clash r p c ≡ true → has_clash r p ≡ true
clash-clashes r p way_out.Bottom h =
    let found = any_at-some (λ n s. p n && is_bottom s) r.shapes h in
    any_at-from (clashes_at r p) r.shapes found.0 found.1 found.2 (clash-bottom r p found.0 found.1 found.3)
clash-clashes r p (way_out.Name a) h =
    let both = and_parts (any_at (λ n s. p n && is_name a s) r.shapes) (any_at (λ n s. p n && is_not a s) r.shapes) h in
    let found = any_at-some (λ n s. p n && is_name a s) r.shapes both.0 in
    any_at-from (clashes_at r p) r.shapes found.0 found.1 found.2 (clash-name r p a found.0 found.1 found.3 both.1)

-- two rules with the same shapes have the same clashes
pub clash-shapes : (r q : Rules) (p : ℕ → Bool) (c : Clash) → r.shapes ≡ q.shapes → is_clash r p c ≡ is_clash q p c
clash-shapes r q p way_out.Bottom e = ap (any_at (λ n s. p n && is_bottom s)) e
clash-shapes r q p (way_out.Name a) e = ap (λ shapes. any_at (λ n s. p n && is_name a s) shapes && any_at (λ n s. p n && is_not a s) shapes) e

-- where none is found there is none, and where there is none, none is found
pub clash-none : (r : Rules) (p : ℕ → Bool) (o : Option Clash) → IfSome o (λ c. is_clash r p c ≡ true) → has_clash r p ≡ false → o ≡ None
clash-none r p None h k = refl
clash-none r p (Some c) h k = absurd (false≢true (sym k ∙ clash-clashes r p c h))

any_at-same : {A : Type 0} (f g : ℕ → A → Bool) (xs : List A) → ((n : ℕ) (x : A) → f n x ≡ g n x) → any_at f xs ≡ any_at g xs
any_at-same f g [] h = refl
any_at-same f g (x ∷ xs) h = ap₂ (λ a b. a || b) (h 0 x) (any_at-same (λ n. f (suc n)) (λ n. g (suc n)) xs (λ n. h (suc n)))

clashes_at-shapes : (r q : Rules) (p : ℕ → Bool) → r.shapes ≡ q.shapes → (n : ℕ) (s : Shape) → clashes_at r p n s ≡ clashes_at q p n s
clashes_at-shapes r q p e n (shape.Name a) = ap (λ shapes. p n && any_at (λ m s. p m && is_not a s) shapes) e
clashes_at-shapes r q p e n shape.Bottom = refl
clashes_at-shapes r q p e n _ = refl

pub has_clash-shapes : (r q : Rules) (p : ℕ → Bool) → r.shapes ≡ q.shapes → has_clash r p ≡ has_clash q p
has_clash-shapes r q p e = any_at-same (clashes_at r p) (clashes_at q p) r.shapes (clashes_at-shapes r q p e) ∙ ap (any_at (clashes_at q p)) e

-- the same found clash, told under rules with the same shapes
pub clash-told : (r q : Rules) (p : ℕ → Bool) (o : Option Clash) → r.shapes ≡ q.shapes → IfSome o (λ c. is_clash r p c ≡ true) → IfSome o (λ c. is_clash q p c ≡ true)
clash-told r q p None e h = h
clash-told r q p (Some c) e h = sym (clash-shapes r q p c e) ∙ h

-- what is not marked is no complement of the label
pub unmarked : (shapes : List Shape) (p marks : ℕ → Bool) (name : ℕ) → IsMarked shapes p marks → marks (name % 65536) ≡ false → any_at (λ m s. p m && is_not name s) shapes ≡ false
unmarked shapes p marks name marked none = any_at-none (λ m s. p m && is_not name s) shapes each
  where
    each : (n : ℕ) (s : Shape) → slice_get shapes n ≡ Some s → (p n && is_not name s) ≡ false
    each n (shape.Not b) e = false_from_ne_true (p n && (name == b)) (λ t.
        let both = and_parts (p n) (name == b) t in
        false≢true (sym none ∙ ap (λ a. marks (a % 65536)) (eqb-true name b both.1) ∙ marked n b e both.0))
    each n shape.Top e = not-passed (p n) false refl
    each n shape.Bottom e = not-passed (p n) false refl
    each n (shape.Name b) e = not-passed (p n) false refl
    each n (shape.And b d) e = not-passed (p n) false refl
    each n (shape.Or b d) e = not-passed (p n) false refl
    each n (shape.HasSome b d) e = not-passed (p n) false refl
    each n (shape.HasAll b d) e = not-passed (p n) false refl
