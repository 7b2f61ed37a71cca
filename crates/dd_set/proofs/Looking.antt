-- The next number of a set, from the words.
use Rattle.std.proofs.Common.{◌≡◌, ℕ, ◌+◌, ◌-◌, ◌*◌, ◌/◌, ◌%◌, ◌^◌, ◌<◌, ◌≤◌, false, List, length, get_or, sym, ap, ◌∙◌, arith, ⊎_elim, w64}
use Rattle.std.specs.Prelude.{◌==◌, Some, None}
use Rattle.std.specs.Int.{bit_at, trailing_zeros}
use Rattle.std.proofs.lemmas.Nat.{shr-shr, shr_le}
use Rattle.std.proofs.lemmas.Nat.Bits.{bit_at-trailing_zeros, bit_at_above, bit_at-zero}
use Rattle.std.proofs.lemmas.Bool.{cases_lt}
use Rattle.dd_set.specs.Words.{has, IsNext}
use Rattle.dd_set.proofs.Reading.{has-at, has-past}

-- no number from n on is in the set below the place
pub record IsSkipped (words : List ℕ) (n place : ℕ) : Type 0 where
  pub from : n ≤ place
  pub none : (k : ℕ) → n ≤ k → k < place → has words k ≡ false

rest-bit : (w s j : ℕ) → bit_at (w / 2 ^ s) j ≡ bit_at w (s + j)
rest-bit w s j = ap (λ m. m % 2) (shr-shr w s j)

-- the number j after a place, from the bits of the word from the place on
has-after : (words : List ℕ) (place j : ℕ) → place % 64 + j < 64 → has words (place + j) ≡ (bit_at (get_or words (place / 64) 0 / 2 ^ (place % 64)) j == 1)
has-after words place j h =
    let e : place + j ≡ place / 64 * 64 + (place % 64 + j) = omega arith in
    ap (has words) e ∙ has-at words (place / 64) (place % 64 + j) h
    ∙ ap (λ b. b == 1) (sym (rest-bit (get_or words (place / 64) 0) (place % 64) j))

module _ (words : List ℕ) (place : ℕ) (small : get_or words (place / 64) 0 < 2 ^ 64) where
  abbrev rest : ℕ
  rest = get_or words (place / 64) 0 / 2 ^ (place % 64)

  -- the lowest bit of the rest is in the same word
  pub found-within : (0 < rest) → place % 64 + trailing_zeros w64 rest < 64
  found-within some =
      let lowest = bit_at-trailing_zeros w64 rest some (omega (arith, shr_le (get_or words (place / 64) 0) (place % 64))) in
      ⊎_elim
      (λ low. low)
      (λ high. let above = bit_at_above (get_or words (place / 64) 0) 64 (place % 64 + trailing_zeros w64 rest) small high in
      let e = rest-bit (get_or words (place / 64) 0) (place % 64) (trailing_zeros w64 rest) in
      let one = lowest.1 in
      absurd (omega arith))
      (cases_lt (place % 64 + trailing_zeros w64 rest) 64)

  pub found : (n : ℕ) → IsSkipped words n place → (0 < rest) → IsNext words n (Some (place + trailing_zeros w64 rest))
  found n skipped some =
      let lowest = bit_at-trailing_zeros w64 rest some (omega (arith, shr_le (get_or words (place / 64) 0) (place % 64))) in
      let within = found-within some in
      let from = skipped.from in (
        omega arith,
        has-after words place (trailing_zeros w64 rest) within ∙ ap (λ b. b == 1) lowest.1,
        λ k low high.
            ⊎_elim
            (λ before. skipped.none k low before)
            (λ after.
            let j : ℕ = k - place in
            let e : k ≡ place + (k - place) = omega arith in
            let below : k - place < trailing_zeros w64 rest = omega arith in
            let near : place % 64 + (k - place) < 64 = omega arith in
            ap (has words) e ∙ has-after words place (k - place) near ∙ ap (λ b. b == 1) (lowest.2 (k - place) below))
            (cases_lt k place),
      )

  pub skipped-more : (n : ℕ) → IsSkipped words n place → rest ≡ 0 → IsSkipped words n ((place / 64 + 1) * 64)
  skipped-more n skipped none = record {
    from = let from = skipped.from in omega arith;
    none = λ k low high.
        ⊎_elim
        (λ before. skipped.none k low before)
        (λ after.
        let e : k ≡ place + (k - place) = omega arith in
        let near : place % 64 + (k - place) < 64 = omega arith in
        ap (has words) e ∙ has-after words place (k - place) near ∙ ap (λ w. bit_at w (k - place) == 1) none ∙ ap (λ b. b == 1) (bit_at-zero (k - place)))
        (cases_lt k place);
  }

pub skipped-start : (words : List ℕ) (n : ℕ) → IsSkipped words n n
skipped-start words n = record { from = omega arith; none = λ k low high. absurd (omega arith) }

pub skipped-all : (words : List ℕ) (n place : ℕ) → IsSkipped words n place → length words ≤ place / 64 → IsNext words n None
skipped-all words n place skipped past k low =
    ⊎_elim
    (λ before. skipped.none k low before)
    (λ after. let beyond : length words ≤ k / 64 = omega arith in has-past words k beyond)
    (cases_lt k place)
