-- What a set has after a number was put into it.
use Rattle.std.proofs.Common.{◌≡◌, ℕ, ◌*◌, ◌/◌, ◌%◌, ◌^◌, ◌<◌, true, not, ◌||◌, List, length, get_or, sym, ap, ◌∙◌, subst, arith, ⊎_elim, w64}
use Rattle.std.specs.Prelude.{◌==◌, ◌≢◌, bit_and, bit_or}
use Rattle.std.specs.Int.{bit_at}
use Rattle.std.proofs.Math.ListN.{set}
use Rattle.std.proofs.lemmas.Nat.{one_shl, or_lt, pow_pos, pow_below}
use Rattle.std.proofs.lemmas.Nat.Bits.{and_pow, bit_at_set_same, bit_at_set_other}
use Rattle.std.proofs.lemmas.List.{get_or-set_same, get_or-set_other, length-set}
use Rattle.std.proofs.lemmas.Bool.{cases_eq, cases_Bool, eq-eqb, ne_eqb, eqb-true, or_cases}
use Rattle.dd_set.specs.Words.{has, IsPacked}
use Rattle.dd_set.proofs.Reading.{has-bit, has-no_bit, bit-has}

-- the words with the bit of n
abbrev pub put : List ℕ → ℕ → List ℕ
put words n = set words (n / 64) (bit_or (get_or words (n / 64) 0) (1 * 2 ^ (n % 64) % 2 ^ 64))

-- whether n is new, as the code tests it
pub put-fresh : (words : List ℕ) (n : ℕ) → (bit_and (get_or words (n / 64) 0) (1 * 2 ^ (n % 64) % 2 ^ 64) == 0) ≡ not (has words n)
put-fresh words n =
    let word = get_or words (n / 64) 0 in
    let at : n % 64 < 64 = omega arith in
    let both : bit_and word (1 * 2 ^ (n % 64) % 2 ^ 64) ≡ bit_at word (n % 64) * 2 ^ (n % 64) = ap (bit_and word) (one_shl (n % 64) 64 at) ∙ and_pow word (n % 64) in
    ap (λ m. m == 0) both
    ∙ ⊎_elim
    (λ there. ap (λ b. b * 2 ^ (n % 64) == 0) (has-bit words n there)
    ∙ ne_eqb (1 * 2 ^ (n % 64)) 0 (λ e. omega (arith, pow_pos (n % 64), e)) ∙ ap not (sym there))
    (λ absent. ap (λ b. b * 2 ^ (n % 64) == 0) (has-no_bit words n absent)
    ∙ eq-eqb (0 * 2 ^ (n % 64)) 0 (omega arith) ∙ ap not (sym absent))
    (cases_Bool (has words n))

same_word : (words : List ℕ) (n k : ℕ) → n / 64 < length words → k / 64 ≡ n / 64 → k ≢ n → has (put words n) k ≡ has words k
unfolding has
same_word words n k within e apart =
    let at : n % 64 < 64 = omega arith in
    let other : k % 64 ≢ n % 64 = λ s. apart (omega arith) in
    ap (λ q. bit_at (get_or (put words n) q 0) (k % 64) == 1) e
    ∙ ap (λ w. bit_at w (k % 64) == 1) (get_or-set_same words (n / 64) (bit_or (get_or words (n / 64) 0) (1 * 2 ^ (n % 64) % 2 ^ 64)) 0 within)
    ∙ ap (λ b. b == 1) (bit_at_set_other w64 (get_or words (n / 64) 0) (n % 64) at (k % 64) other)
    ∙ ap (λ q. bit_at (get_or words q 0) (k % 64) == 1) (sym e)

other_word : (words : List ℕ) (n k : ℕ) → k / 64 ≢ n / 64 → has (put words n) k ≡ has words k
unfolding has
other_word words n k apart = ap (λ w. bit_at w (k % 64) == 1) (get_or-set_other words (n / 64) (k / 64) (bit_or (get_or words (n / 64) 0) (1 * 2 ^ (n % 64) % 2 ^ 64)) 0 apart)

put-same : (words : List ℕ) (n : ℕ) → n / 64 < length words → has (put words n) n ≡ true
put-same words n within =
    let at : n % 64 < 64 = omega arith in
    bit-has (put words n) n (
    ap (λ w. bit_at w (n % 64)) (get_or-set_same words (n / 64) (bit_or (get_or words (n / 64) 0) (1 * 2 ^ (n % 64) % 2 ^ 64)) 0 within)
    ∙ bit_at_set_same w64 (get_or words (n / 64) 0) (n % 64) at)

-- the set has n, and what it had
pub put-with : (words : List ℕ) (n : ℕ) → n < length words * 64 → (k : ℕ) → has (put words n) k ≡ ((k == n) || has words k)
put-with words n h k =
    let within : n / 64 < length words = omega arith in
    ⊎_elim
    (λ e. ap (has (put words n)) e ∙ put-same words n within ∙ sym (ap (λ b. b || has words k) (eq-eqb k n e)))
    (λ apart.
    ⊎_elim (λ e. same_word words n k within e apart) (λ far. other_word words n k far) (cases_eq (k / 64) (n / 64))
    ∙ sym (ap (λ b. b || has words k) (ne_eqb k n apart)))
    (cases_eq k n)

-- the words stay packed
pub put-packed : (words : List ℕ) (n : ℕ) → n < length words * 64 → (width : ℕ) → n < width → IsPacked width words → IsPacked width (put words n)
put-packed words n h width below p =
    let within : n / 64 < length words = omega arith in
    let at : n % 64 < 64 = omega arith in
    let len = length-set words (n / 64) (bit_or (get_or words (n / 64) 0) (1 * 2 ^ (n % 64) % 2 ^ 64)) in
    let bit : 1 * 2 ^ (n % 64) % 2 ^ 64 < 2 ^ 64 = omega (arith, one_shl (n % 64) 64 at, pow_below (n % 64) 64 at) in
    let word = or_lt 64 (get_or words (n / 64) 0) (1 * 2 ^ (n % 64) % 2 ^ 64) (p.small (n / 64)) bit in
    record {
      narrow = p.narrow;
      enough = omega (arith, p.enough, len);
      tight = omega (arith, p.tight, len);
      small = λ i. ⊎_elim
          (λ e. subst (λ j. get_or (put words n) j 0 < 2 ^ 64) (sym e) (subst (λ w. w < 2 ^ 64) (sym (get_or-set_same words (n / 64) (bit_or (get_or words (n / 64) 0) (1 * 2 ^ (n % 64) % 2 ^ 64)) 0 within)) word))
          (λ apart. subst (λ w. w < 2 ^ 64) (sym (get_or-set_other words (n / 64) i (bit_or (get_or words (n / 64) 0) (1 * 2 ^ (n % 64) % 2 ^ 64)) 0 apart)) (p.small i))
          (cases_eq i (n / 64));
      within = λ k there. ⊎_elim (λ e. let same = eqb-true k n e in omega arith) (λ old. p.within k old) (or_cases (k == n) (has words k) (sym (put-with words n h k) ∙ there));
    }
