-- A test of each number below a bound.
use Rattle.std.proofs.Common.{◌≡◌, ℕ, zero, suc, ◌<◌, Bool, true, false, ◌&&◌, refl, subst, inl, inr, arith}
use Rattle.std.specs.Bool.{Decides}
use Rattle.std.proofs.lemmas.Bool.{cases_eq, and_right, and_left}
use Rattle.std.proofs.lemmas.Bool.Decides.{Decides-below_and}
use Rattle.dd_world.specs.Tests.{all_below}

module _ (p : ℕ → Bool) where
  pub all_below-at : (n x : ℕ) → x < n → p x ≡ false → all_below n p ≡ false
  all_below-at zero x lt e = absurd (omega arith)
  all_below-at (suc n) x lt e = elim (cases_eq x n) [
    | inl q ↦ and_left (p n) (all_below n p) (subst (λ y. p y ≡ false) q e)
    | inr ne ↦ and_right (p n) (all_below n p) (all_below-at n x (omega (arith, ne)) e)
  ]

  abbrev pub Fails : ℕ → Type 0
  Fails n = (x : ℕ) × (x < n) × (p x ≡ false)

  fails_more : (n : ℕ) (a b : Bool) → (a && b) ≡ false → (p n ≡ a) → (b ≡ false → Fails n) → Fails (suc n)
  fails_more n true b e f h = let k = h e in (k.0, omega (arith, k.1), k.2)
  fails_more n false b e f h = (n, omega arith, f)

  -- a number that fails
  pub failing_below : (n : ℕ) → all_below n p ≡ false → Fails n
  failing_below zero e = cc
  failing_below (suc n) e = fails_more n (p n) (all_below n p) e refl (failing_below n)

  pub decides_below : (P : ℕ → Type 0) → ((x : ℕ) → Decides (p x) (P x)) → (n : ℕ) → Decides (all_below n p) ((x : ℕ) → x < n → P x)
  decides_below P each n = Decides-below_and p P (λ m. all_below m p) each refl (λ m. refl) n

  pub below_passes : (n : ℕ) → all_below n p ≡ true → (x : ℕ) → x < n → p x ≡ true
  below_passes n e = (decides_below (λ x. p x ≡ true) (λ x. (λ f. f, λ f. f)) n).0 e
