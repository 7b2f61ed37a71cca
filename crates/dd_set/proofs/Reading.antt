-- Reading one number of a set from its word.
use Rattle.std.proofs.Common.{◌≡◌, ℕ, zero, suc, replicate, ◌+◌, ◌*◌, ◌/◌, ◌%◌, ◌^◌, ◌<◌, ◌≤◌, true, false, List, length, get_or, refl, sym, ap, ◌∙◌, subst, arith}
use Rattle.std.specs.Prelude.{◌==◌, bit_and}
use Rattle.std.specs.Int.{bit_at}
use Rattle.std.proofs.lemmas.Nat.{div-mul-add, mod-mul-add}
use Rattle.std.proofs.lemmas.Nat.Bits.{shr_and_one, bit_at-zero, bit_at-lt}
use Rattle.std.proofs.lemmas.List.{get_or_past, length-replicate}
use Rattle.std.proofs.lemmas.Bool.{eqb-true, eqb-false, eq-eqb, false≢true}
use Rattle.dd_set.specs.Words.{has, IsPacked}

-- the code's test
pub has-read : (words : List ℕ) (n : ℕ) → (bit_and (get_or words (n / 64) 0 / 2 ^ (n % 64)) 1 == 1) ≡ has words n
unfolding has
has-read words n = ap (λ b. b == 1) (shr_and_one (get_or words (n / 64) 0) (n % 64))

-- past the words there is nothing
pub has-past : (words : List ℕ) (n : ℕ) → length words ≤ n / 64 → has words n ≡ false
unfolding has
has-past words n h = ap (λ w. bit_at w (n % 64) == 1) (get_or_past words (n / 64) 0 h) ∙ ap (λ b. b == 1) (bit_at-zero (n % 64))

pub ruleset reading = (has-read, has-past)

-- the number of the bit j of the word q
pub has-at : (words : List ℕ) (q j : ℕ) → j < 64 → has words (q * 64 + j) ≡ (bit_at (get_or words q 0) j == 1)
unfolding has
has-at words q j h =
    ap (λ k. bit_at (get_or words k 0) ((q * 64 + j) % 64) == 1) (div-mul-add q 64 j h)
    ∙ ap (λ k. bit_at (get_or words q 0) k == 1) (mod-mul-add q 64 j h)

pub has-bit : (words : List ℕ) (n : ℕ) → has words n ≡ true → bit_at (get_or words (n / 64) 0) (n % 64) ≡ 1
unfolding has
has-bit words n h = eqb-true _ _ h

pub has-no_bit : (words : List ℕ) (n : ℕ) → has words n ≡ false → bit_at (get_or words (n / 64) 0) (n % 64) ≡ 0
unfolding has
has-no_bit words n h =
    let apart = eqb-false (bit_at (get_or words (n / 64) 0) (n % 64)) 1 h in
    let two = bit_at-lt (get_or words (n / 64) 0) (n % 64) in
    omega arith

pub bit-has : (words : List ℕ) (n : ℕ) → bit_at (get_or words (n / 64) 0) (n % 64) ≡ 1 → has words n ≡ true
unfolding has
bit-has words n h = eq-eqb _ _ h

pub no_bit-has : (words : List ℕ) (n : ℕ) → bit_at (get_or words (n / 64) 0) (n % 64) ≡ 0 → has words n ≡ false
unfolding has
no_bit-has words n h = ap (λ b. b == 1) h

zeros : (k i : ℕ) → ◌≡◌ {A = ℕ} (get_or (replicate k 0) i 0) 0
zeros zero i = refl
zeros (suc k) zero = refl
zeros (suc k) (suc i) = zeros k i

-- words that are all 0 have nothing
pub has-zeros : (k n : ℕ) → has (replicate k 0) n ≡ false
unfolding has
has-zeros k n = ap (λ w. bit_at w (n % 64) == 1) (zeros k (n / 64)) ∙ ap (λ b. b == 1) (bit_at-zero (n % 64))

pub packed-zeros : (width k : ℕ) → width < 2 ^ 32 → width ≤ k * 64 → k * 64 < width + 64 → IsPacked width (replicate k 0)
packed-zeros width k narrow enough tight = record {
  narrow = narrow;
  enough = omega (arith, length-replicate {A = ℕ} k 0);
  tight = omega (arith, length-replicate {A = ℕ} k 0);
  small = λ i. subst (λ w. w < 2 ^ 64) (sym (zeros k i)) (omega arith);
  within = λ n h. absurd (false≢true (sym (has-zeros k n) ∙ h));
}
