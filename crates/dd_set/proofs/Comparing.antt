-- When all of one set is in another, word by word.
use Rattle.std.proofs.Common.{◌≡◌, ℕ, ◌+◌, ◌-◌, ◌*◌, ◌/◌, ◌%◌, ◌^◌, ◌<◌, ◌≤◌, min, true, List, length, get_or, sym, ap, ◌∙◌, subst, arith, ⊎_elim, w64}
use Rattle.std.specs.Prelude.{◌==◌, ◌⊎◌, bit_and}
use Rattle.std.specs.Int.{bit_at, bit_not}
use Rattle.std.proofs.lemmas.Nat.{and_le_l}
use Rattle.std.proofs.lemmas.Nat.Bits.{bit_at_and, bit_at_not, bit_at-zero, bit_at-lt, same_from_bits_below}
use Rattle.std.proofs.lemmas.List.{same_lists, get_or_default}
use Rattle.std.proofs.lemmas.Bool.Decides.{nat_tests}
use Rattle.std.proofs.lemmas.Bool.{cases_lt, eqb-true, false≢true}
use Rattle.dd_set.specs.Words.{has, IsWithin, IsPacked}
use Rattle.dd_set.proofs.Reading.{has-at, has-past, has-bit, bit-has}

abbrev pub IsWordWithin : ℕ → ℕ → Type 0
IsWordWithin a b = (i : ℕ) → i < 64 → bit_at a i ≡ 1 → bit_at b i ≡ 1

one_bit : (a b i : ℕ) → b < 2 ^ 64 → i < 64 → bit_at (bit_and a (bit_not w64 b)) i ≡ min (bit_at a i) (1 - bit_at b i)
one_bit a b i small h = bit_at_and a (bit_not w64 b) i ∙ ap (min (bit_at a i)) (bit_at_not w64 b i small h)

pub within-from_zero : (a b : ℕ) → b < 2 ^ 64 → bit_and a (bit_not w64 b) ≡ 0 → IsWordWithin a b
within-from_zero a b small none i h there =
    let zero = ap (λ n. bit_at n i) none ∙ bit_at-zero i in
    let e = one_bit a b i small h in
    let two = bit_at-lt b i in
    omega arith

pub zero-from_within : (a b : ℕ) → a < 2 ^ 64 → b < 2 ^ 64 → IsWordWithin a b → bit_and a (bit_not w64 b) ≡ 0
zero-from_within a b sa sb within =
    same_from_bits_below 64 (bit_and a (bit_not w64 b)) 0 (omega (arith, and_le_l a (bit_not w64 b))) (omega arith)
    (λ i h. let e = one_bit a b i sb h in
    let two_a = bit_at-lt a i in
    let two_b = bit_at-lt b i in
    let zero = bit_at-zero i in
    ⊎_elim (λ (one : bit_at a i ≡ 1). let there = within i h one in omega arith) (λ (none : bit_at a i ≡ 0). omega arith) (either (bit_at a i) two_a))
  where
    either : (n : ℕ) → n < 2 → (n ≡ 1) ⊎ (n ≡ 0)
    either n h = grind arith

abbrev pub IsWithinBelow : List ℕ → List ℕ → ℕ → Type 0
IsWithinBelow a b i = (n : ℕ) → n < i * 64 → has a n ≡ true → has b n ≡ true

pub within-none : (a b : List ℕ) → IsWithinBelow a b 0
within-none a b n h = absurd (omega arith)

pub within-more : (a b : List ℕ) (i : ℕ) → IsWithinBelow a b i → IsWordWithin (get_or a i 0) (get_or b i 0) → IsWithinBelow a b (i + 1)
within-more a b i below word n h there =
    ⊎_elim
    (λ low. below n low there)
    (λ high.
    let row : n / 64 ≡ i = omega arith in
    let at : n % 64 < 64 = omega arith in
    bit-has b n (subst (λ q. bit_at (get_or b q 0) (n % 64) ≡ 1) (sym row) (word (n % 64) at (subst (λ q. bit_at (get_or a q 0) (n % 64) ≡ 1) row (has-bit a n there)))))
    (cases_lt n (i * 64))

pub within-all : (a b : List ℕ) (i : ℕ) → length a ≤ i → IsWithinBelow a b i → IsWithin a b
within-all a b i all below n there =
    ⊎_elim
    (λ low. below n low there)
    (λ high. let past : length a ≤ n / 64 = omega arith in absurd (false≢true (sym (has-past a n past) ∙ there)))
    (cases_lt n (i * 64))

-- each word of a set within another is within the other's
pub word-from_within : (a b : List ℕ) (i : ℕ) → IsWithin a b → IsWordWithin (get_or a i 0) (get_or b i 0)
word-from_within a b i within j h one =
    let there = has-at a i j h ∙ ap (λ k. k == 1) one in
    let e = within (i * 64 + j) there in
    eqb-true _ _ (sym (has-at b i j h) ∙ e)

-- two packed sets with the same numbers have the same words
pub same-from_numbers : (width : ℕ) (a b : List ℕ) → IsPacked width a → IsPacked width b → ((n : ℕ) → has a n ≡ has b n) → a ≡ b
same-from_numbers width a b pa pb same =
    same_lists a b (omega (arith, pa.enough, pa.tight, pb.enough, pb.tight))
    (λ k d h.
    let at_a = get_or_default a k d 0 h in
    let within : k < length b = omega (arith, pa.enough, pa.tight, pb.enough, pb.tight) in
    let at_b = get_or_default b k 0 d within in
    at_a ∙ same_from_bits_below 64 (get_or a k 0) (get_or b k 0) (pa.small k) (pb.small k)
    (λ i below. one_from (bit_at (get_or a k 0) i) (bit_at (get_or b k 0) i) (bit_at-lt (get_or a k 0) i) (bit_at-lt (get_or b k 0) i) (sym (has-at a k i below) ∙ same (k * 64 + i) ∙ has-at b k i below))
    ∙ at_b)
  where
    one_from : (m n : ℕ) → m < 2 → n < 2 → (m == 1) ≡ (n == 1) → m ≡ n
    one_from m n hm hn e = grind (arith, nat_tests)
