-- The first number of a set that is not in another one, and a copy of a set's words.
use Rattle.std.proofs.Common.{◌≡◌, ℕ, ◌+◌, ◌-◌, ◌/◌, ◌%◌, ◌^◌, ◌<◌, ◌≤◌, min, false, List, length, get_or, refl, sym, ap, ◌∙◌, arith, inl, inr, w64}
use Rattle.std.specs.Prelude.{◌==◌, bit_and}
use Rattle.std.specs.Int.{bit_at, bit_not, trailing_zeros}
use Rattle.std.proofs.Math.ListN.{set}
use Rattle.std.proofs.lemmas.Nat.{and_le_l}
use Rattle.std.proofs.lemmas.Nat.Bits.{bit_at_and, bit_at_not, bit_at-lt, bit_at_above, bit_at-trailing_zeros}
use Rattle.std.proofs.lemmas.List.{get_or-set_same, get_or-set_other, length-set}
use Rattle.std.proofs.lemmas.Bool.{cases_eq, cases_lt}
use Rattle.dd_set.specs.Words.{has}
use Rattle.dd_set.specs.Sets.{count, IsWith}
use Rattle.dd_set.proofs.Reading.{has-past}
use Rattle.dd_set.proofs.Sets.{count-with, count-le}

-- what of the first word is not in the second
abbrev pub left_of : ℕ → ℕ → ℕ
left_of a b = bit_and a (bit_not w64 b)

-- its lowest bit is one of the first word, and none of the second
pub lowest : (a b : ℕ) → a < 2 ^ 64 → b < 2 ^ 64 → (0 < left_of a b)
    → (trailing_zeros w64 (left_of a b) < 64) × (bit_at a (trailing_zeros w64 (left_of a b)) ≡ 1) × (bit_at b (trailing_zeros w64 (left_of a b)) ≡ 0)
lowest a b sa sb some =
    let j = trailing_zeros w64 (left_of a b) in
    let small : left_of a b < 2 ^ 64 = omega (arith, and_le_l a (bit_not w64 b)) in
    let first = bit_at-trailing_zeros w64 (left_of a b) some (omega (arith, small)) in
    let low : j < 64 = elim (cases_lt j 64) [
      | inl l ↦ l
      | inr high ↦ let above = bit_at_above (left_of a b) 64 j small high in let one = first.0 in absurd (omega arith)
    ] in
    let e : bit_at (left_of a b) j ≡ min (bit_at a j) (1 - bit_at b j) = bit_at_and a (bit_not w64 b) j ∙ ap (min (bit_at a j)) (bit_at_not w64 b j sb low) in
    let one = first.0 in
    let two_a = bit_at-lt a j in
    let two_b = bit_at-lt b j in
    (low, omega arith, omega arith)

-- the words below the place are those of the set, the other ones are as before
pub record IsCopiedBelow (words start now : List ℕ) (i : ℕ) : Type 0 where
  pub len : length now ≡ length start
  pub done : (j : ℕ) → j < i → get_or now j 0 ≡ get_or words j 0
  pub rest : (j : ℕ) → i ≤ j → get_or now j 0 ≡ get_or start j 0

pub copied-start : (words start : List ℕ) → IsCopiedBelow words start start 0
copied-start words start = record { len = refl; done = λ j low. absurd (omega arith); rest = λ j high. refl }

pub copied-more : (words start now : List ℕ) (i : ℕ) → i < length start → IsCopiedBelow words start now i → IsCopiedBelow words start (set now i (get_or words i 0)) (i + 1)
copied-more words start now i within h =
    let len = h.len in
    let word = get_or words i 0 in
    record {
      len = length-set now i word ∙ len;
      done = λ j low. elim (cases_eq j i) [
        | inl e ↦ ap (λ k. get_or (set now i word) k 0) e ∙ get_or-set_same now i word 0 (omega arith) ∙ ap (λ k. get_or words k 0) (sym e)
        | inr apart ↦ get_or-set_other now i j word 0 apart ∙ h.done j (omega arith)
      ];
      rest = λ j high. get_or-set_other now i j word 0 (λ e. omega arith) ∙ h.rest j (omega arith);
    }

pub copied-has : (words start now : List ℕ) (i : ℕ) → length words ≤ i → ((k : ℕ) → has start k ≡ false) → IsCopiedBelow words start now i → (k : ℕ) → has now k ≡ has words k
unfolding has
copied-has words start now i all none h k = elim (cases_lt (k / 64) i) [
  | inl low ↦ ap (λ w. bit_at w (k % 64) == 1) (h.done (k / 64) low)
  | inr high ↦ ap (λ w. bit_at w (k % 64) == 1) (h.rest (k / 64) high) ∙ none k ∙ sym (has-past words k (omega arith))
]

-- one number more leaves fewer that are not in the set
pub fewer-left : (a b : List ℕ) (n w : ℕ) → IsWith a n b → has a n ≡ false → n < w → w - count b w < w - count a w
fewer-left a b n w with absent low =
    let more = count-with a b n w with absent low in
    let most = count-le b w in
    omega arith
