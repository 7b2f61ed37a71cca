-- The union of two sets, word by word.
use Rattle.std.proofs.Common.{◌≡◌, ℕ, ◌+◌, ◌/◌, ◌%◌, ◌^◌, ◌<◌, ◌≤◌, max, ◌||◌, List, length, get_or, refl, sym, ap, ◌∙◌, subst, arith, ⊎_elim}
use Rattle.std.specs.Prelude.{◌==◌, bit_or}
use Rattle.std.specs.Int.{bit_at}
use Rattle.std.proofs.Math.ListN.{set}
use Rattle.std.proofs.lemmas.Nat.{or_lt}
use Rattle.std.proofs.lemmas.Nat.Bits.{bit_at_or, bit_at-lt}
use Rattle.std.proofs.lemmas.List.{get_or-set_same, get_or-set_other, get_or_past, length-set}
use Rattle.std.proofs.lemmas.Bool.{cases_lt, cases_eq, or_cases}
use Rattle.std.proofs.lemmas.Bool.Decides.{nat_tests}
use Rattle.dd_set.specs.Words.{has, IsPacked}

-- the words so far are joined, and the others are as they were
pub record IsJoinedBelow (a b now : List ℕ) (i : ℕ) : Type 0 where
  pub len : length now ≡ length a
  pub done : (j : ℕ) → j < i → get_or now j 0 ≡ bit_or (get_or a j 0) (get_or b j 0)
  pub rest : (j : ℕ) → i ≤ j → get_or now j 0 ≡ get_or a j 0

pub joined-start : (a b : List ℕ) → IsJoinedBelow a b a 0
joined-start a b = record { len = refl; done = λ j h. absurd (omega arith); rest = λ j h. refl }

pub joined-more : (a b now : List ℕ) (i : ℕ) → i < length a → IsJoinedBelow a b now i → IsJoinedBelow a b (set now i (bit_or (get_or now i 0) (get_or b i 0))) (i + 1)
joined-more a b now i within h =
    let len = h.len in
    let word = bit_or (get_or now i 0) (get_or b i 0) in
    record {
      len = length-set now i word ∙ len;
      done = λ j low. ⊎_elim
          (λ e. ap (λ k. get_or (set now i word) k 0) e ∙ get_or-set_same now i word 0 (omega arith) ∙ ap (λ w. bit_or w (get_or b i 0)) (h.rest i (omega arith)) ∙ ap (λ k. bit_or (get_or a k 0) (get_or b k 0)) (sym e))
          (λ apart. get_or-set_other now i j word 0 apart ∙ h.done j (omega arith))
          (cases_eq j i);
      rest = λ j high. get_or-set_other now i j word 0 (λ e. omega arith) ∙ h.rest j (omega arith);
    }

all : (a b now : List ℕ) (i : ℕ) → length a ≡ length b → length a ≤ i → IsJoinedBelow a b now i → (j : ℕ) → get_or now j 0 ≡ bit_or (get_or a j 0) (get_or b j 0)
all a b now i same end h j =
    ⊎_elim
    (λ low. h.done j low)
    (λ high. h.rest j high ∙ get_or_past a j 0 (omega arith) ∙ sym (ap (λ w. bit_or w (get_or b j 0)) (get_or_past a j 0 (omega arith)) ∙ ap (λ w. bit_or 0 w) (get_or_past b j 0 (omega arith))))
    (cases_lt j i)

pub joined-has : (a b now : List ℕ) (i : ℕ) → length a ≡ length b → length a ≤ i → IsJoinedBelow a b now i → (k : ℕ) → has now k ≡ (has a k || has b k)
unfolding has
joined-has a b now i same end h k =
    ap (λ w. bit_at w (k % 64) == 1) (all a b now i same end h (k / 64))
    ∙ ap (λ n. n == 1) (bit_at_or (get_or a (k / 64) 0) (get_or b (k / 64) 0) (k % 64))
    ∙ either (bit_at (get_or a (k / 64) 0) (k % 64)) (bit_at (get_or b (k / 64) 0) (k % 64)) (bit_at-lt (get_or a (k / 64) 0) (k % 64)) (bit_at-lt (get_or b (k / 64) 0) (k % 64))
  where
    either : (m n : ℕ) → m < 2 → n < 2 → (max m n == 1) ≡ ((m == 1) || (n == 1))
    either m n hm hn = grind (arith, nat_tests)

pub joined-packed : (a b now : List ℕ) (i : ℕ) → length a ≡ length b → length a ≤ i → IsJoinedBelow a b now i → (width : ℕ) → IsPacked width a → IsPacked width b → IsPacked width now
joined-packed a b now i same end h width p q = record {
  narrow = p.narrow;
  enough = (let len = h.len in let e = p.enough in omega arith);
  tight = (let len = h.len in let e = p.tight in omega arith);
  small = λ j. subst (λ w. w < 2 ^ 64) (sym (all a b now i same end h j)) (or_lt 64 (get_or a j 0) (get_or b j 0) (p.small j) (q.small j));
  within = λ k there. ⊎_elim (λ l. p.within k l) (λ r. q.within k r) (or_cases (has a k) (has b k) (sym (joined-has a b now i same end h k) ∙ there));
}
