-- What two sets have together, and what one has alone, word by word.
use Rattle.std.proofs.Common.{◌≡◌, ℕ, ◌+◌, ◌-◌, ◌*◌, ◌/◌, ◌%◌, ◌^◌, ◌<◌, ◌≤◌, min, Bool, true, false, not, ◌&&◌, List, length, get_or, refl, sym, ap, ◌∙◌, subst, arith, ⊎_elim, w64}
use Rattle.std.specs.Prelude.{◌==◌, ◌≢◌, ◌⊎◌, bit_and}
use Rattle.std.specs.Int.{bit_at, bit_not}
use Rattle.std.proofs.Math.ListN.{set}
use Rattle.std.proofs.lemmas.Nat.Bits.{bit_at_and, bit_at_not, bit_at-lt}
use Rattle.std.proofs.lemmas.List.{get_or-set_same, get_or-set_other, get_or_past, length-set}
use Rattle.std.proofs.lemmas.Bool.{cases_lt, cases_eq, and_parts}
use Rattle.std.proofs.lemmas.Bool.Decides.{nat_tests}
use Rattle.dd_set.specs.Words.{has, IsPacked}
use Rattle.dd_set.proofs.Reading.{has-past}

-- the words so far are made by a test of both bits, and the others are as they were
pub record IsMixedBelow (op : Bool → Bool → Bool) (a b now : List ℕ) (i : ℕ) : Type 0 where
  pub len : length now ≡ length a
  pub done : (j : ℕ) → j < i → (t : ℕ) → t < 64 → (bit_at (get_or now j 0) t == 1) ≡ op (bit_at (get_or a j 0) t == 1) (bit_at (get_or b j 0) t == 1)
  pub small : (j : ℕ) → j < i → get_or now j 0 < 2 ^ 64
  pub rest : (j : ℕ) → i ≤ j → get_or now j 0 ≡ get_or a j 0

module _ (op : Bool → Bool → Bool) (a b : List ℕ) where
  pub mixed-start : IsMixedBelow op a b a 0
  mixed-start = record { len = refl; done = λ j h. absurd (omega (arith, h)); small = λ j h. absurd (omega (arith, h)); rest = λ j h. refl }

  pub mixed-more : (now : List ℕ) (i word : ℕ) → i < length a → word < 2 ^ 64
      → ((t : ℕ) → t < 64 → (bit_at word t == 1) ≡ op (bit_at (get_or now i 0) t == 1) (bit_at (get_or b i 0) t == 1))
      → IsMixedBelow op a b now i → IsMixedBelow op a b (set now i word) (i + 1)
  mixed-more now i word within less bits h =
      let len = h.len in
      record {
        len = length-set now i word ∙ len;
        done = λ j low t lt. ⊎_elim
            (λ e. subst (λ n. (bit_at (get_or (set now i word) n 0) t == 1) ≡ op (bit_at (get_or a n 0) t == 1) (bit_at (get_or b n 0) t == 1)) (sym e)
            (ap (λ w. bit_at w t == 1) (get_or-set_same now i word 0 (omega (arith, within, len))) ∙ bits t lt
            ∙ ap (λ w. op (bit_at w t == 1) (bit_at (get_or b i 0) t == 1)) (h.rest i (omega arith))))
            (λ apart. ap (λ w. bit_at w t == 1) (get_or-set_other now i j word 0 apart) ∙ h.done j (omega (arith, apart, low)) t lt)
            (cases_eq j i);
        small = λ j low. ⊎_elim
            (λ e. subst (λ n. get_or (set now i word) n 0 < 2 ^ 64) (sym e) (subst (λ w. w < 2 ^ 64) (sym (get_or-set_same now i word 0 (omega (arith, within, len)))) less))
            (λ apart. subst (λ w. w < 2 ^ 64) (sym (get_or-set_other now i j word 0 apart)) (h.small j (omega (arith, apart, low))))
            (cases_eq j i);
        rest = λ j high. get_or-set_other now i j word 0 (λ e. omega (arith, e, high)) ∙ h.rest j (omega (arith, high));
      }

  module _ (none : op false false ≡ false) (now : List ℕ) (i : ℕ) (same : length a ≡ length b) (end : length a ≤ i) (h : IsMixedBelow op a b now i) where
    pub mixed-has : (k : ℕ) → has now k ≡ op (has a k) (has b k)
    unfolding has
    mixed-has k = ⊎_elim
        (λ (low : k / 64 < length a). at (omega (arith, low, end)))
        (λ (high : length a ≤ k / 64). let len = h.len in
        has-past now k (omega (arith, high, len)) ∙ sym none ∙ ap (λ v. op v false) (sym (has-past a k high)) ∙ ap (op (has a k)) (sym (has-past b k (omega (arith, high, same)))))
        (cases_lt (k / 64) (length a))
      where
        at : k / 64 < i → has now k ≡ op (has a k) (has b k)
        at lt = h.done (k / 64) lt (k % 64) (omega arith)

    pub mixed-packed : ((x y : Bool) → op x y ≡ true → x ≡ true) → (width : ℕ) → IsPacked width a → IsPacked width now
    mixed-packed left width p = record {
      narrow = p.narrow;
      enough = (let len = h.len in let e = p.enough in omega (arith, len, e));
      tight = (let len = h.len in let e = p.tight in omega (arith, len, e));
      small = λ j. ⊎_elim
          (λ (low : j < i). h.small j low)
          (λ (high : i ≤ j). subst (λ w. w < 2 ^ 64) (sym (h.rest j high)) (p.small j))
          (cases_lt j i);
      within = λ k there. p.within k (left (has a k) (has b k) (sym (mixed-has k) ∙ there));
    }

-- the two ways to mix
abbrev pub without : Bool → Bool → Bool
without x y = x && not y

pub left_of_both : (x y : Bool) → (x && y) ≡ true → x ≡ true
left_of_both x y e = (and_parts x y e).0

pub left_of_without : (x y : Bool) → without x y ≡ true → x ≡ true
left_of_without x y e = (and_parts x (not y) e).0

pub bits-both : (m n t : ℕ) → (bit_at (bit_and m n) t == 1) ≡ ((bit_at m t == 1) && (bit_at n t == 1))
bits-both m n t = ap (λ v. v == 1) (bit_at_and m n t) ∙ each (bit_at m t) (bit_at n t) (bit_at-lt m t) (bit_at-lt n t)
  where
    each : (p q : ℕ) → p < 2 → q < 2 → (min p q == 1) ≡ ((p == 1) && (q == 1))
    each p q hp hq = grind (arith, nat_tests)

pub bits-without : (m n t : ℕ) → n < 2 ^ 64 → t < 64 → (bit_at (bit_and m (bit_not w64 n)) t == 1) ≡ without (bit_at m t == 1) (bit_at n t == 1)
bits-without m n t small lt = ap (λ v. v == 1) (bit_at_and m (bit_not w64 n) t ∙ ap (min (bit_at m t)) (bit_at_not w64 n t small lt))
    ∙ each (bit_at m t) (bit_at n t) (bit_at-lt m t) (bit_at-lt n t)
  where
    each : (p q : ℕ) → p < 2 → q < 2 → (min p (1 - q) == 1) ≡ ((p == 1) && not (q == 1))
    each p q hp hq = grind (arith, nat_tests)
