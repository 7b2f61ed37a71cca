-- What holds at each number below another.
use Rattle.std.proofs.Common.{inl, inr, ◌≡◌, ℕ, zero, suc, ◌+◌, ◌<◌, [], ◌∷◌, ◌++◌, ◌&&◌, Bool, true, false, refl, ap, sym, ◌∙◌, arith}
use Rattle.std.proofs.lemmas.List.{same_lists}
use Rattle.std.proofs.lemmas.List.Folds.{list_all-append}
use Rattle.std.proofs.lemmas.List.FromFn.{length-map-range_with_len, get_or-map-range_with_len}
use Rattle.std.proofs.lemmas.Bool.{cases_eq, and_from, and_parts}
use Rattle.std.specs.Prelude.{map}
use Rattle.std.specs.List.{list_all, range_with_len}

pub range-end : (a n : ℕ) → range_with_len a (suc n) ≡ range_with_len a n ++ (a + n) ∷ []
range-end a zero = ap (λ k. k ∷ []) (let e : a ≡ a + 0 = omega arith in e)
range-end a (suc n) = ap (λ ks. a ∷ ks) (range-end (a + 1) n ∙ ap (λ k. range_with_len (a + 1) n ++ k ∷ []) (let e : (a + 1) + n ≡ a + suc n = omega arith in e))

and_last : (b c : Bool) → (b && (c && true)) ≡ (b && c)
and_last true true = refl
and_last true false = refl
and_last false c = refl

false_unless : (b : Bool) → (b ≡ true → ⊥) → b ≡ false
false_unless true h = absurd (h refl)
false_unless false h = refl

off : false ≡ true → ⊥
off e = cc e

module _ (p : ℕ → Bool) where
  pub all_end : (n : ℕ) → list_all p (range_with_len 0 (suc n)) ≡ (list_all p (range_with_len 0 n) && p n)
  all_end n =
      ap (list_all p) (range-end 0 n)
      ∙ list_all-append p (range_with_len 0 n) ((0 + n) ∷ [])
      ∙ and_last (list_all p (range_with_len 0 n)) (p (0 + n))
      ∙ ap (λ k. list_all p (range_with_len 0 n) && p k) (let e : 0 + n ≡ n = omega arith in e)

  pub all_more : (n : ℕ) → list_all p (range_with_len 0 n) ≡ true → p n ≡ true → list_all p (range_with_len 0 (n + 1)) ≡ true
  all_more n all one =
      ap (λ k. list_all p (range_with_len 0 k)) (let e : n + 1 ≡ suc n = omega arith in e) ∙ all_end n ∙ and_from (list_all p (range_with_len 0 n)) (p n) all one

  pub all_at : (n k : ℕ) → list_all p (range_with_len 0 n) ≡ true → k < n → p k ≡ true
  all_at zero k all lt = absurd (omega (arith, lt))
  all_at (suc n) k all lt =
      let parts = and_parts (list_all p (range_with_len 0 n)) (p n) (sym (all_end n) ∙ all) in
      elim (cases_eq k n) [
        | inl e ↦ ap p e ∙ parts.1
        | inr ne ↦ all_at n k parts.0 (omega (arith, lt, ne))
      ]

  pub all_from : (n : ℕ) → ((k : ℕ) → k < n → p k ≡ true) → list_all p (range_with_len 0 n) ≡ true
  all_from zero h = refl
  all_from (suc n) h = all_end n ∙ and_from (list_all p (range_with_len 0 n)) (p n) (all_from n (λ k lt. h k (omega (arith, lt)))) (h n (omega arith))

  pub all_stops : (n k : ℕ) → k < n → p k ≡ false → list_all p (range_with_len 0 n) ≡ false
  all_stops n k lt stop = false_unless (list_all p (range_with_len 0 n)) (λ all. off (sym stop ∙ all_at n k all lt))

pub all_same : (p q : ℕ → Bool) (n : ℕ) → ((k : ℕ) → k < n → p k ≡ q k) → list_all p (range_with_len 0 n) ≡ list_all q (range_with_len 0 n)
all_same p q zero h = refl
all_same p q (suc n) h =
    all_end p n
    ∙ ap (λ b. b && p n) (all_same p q n (λ k lt. h k (omega (arith, lt))))
    ∙ ap (λ b. list_all q (range_with_len 0 n) && b) (h n (omega arith))
    ∙ sym (all_end q n)

pub map_same : {X : Type 0} (f g : ℕ → X) (n : ℕ) → ((k : ℕ) → k < n → f k ≡ g k) → map f (range_with_len 0 n) ≡ map g (range_with_len 0 n)
map_same f g n h =
    same_lists (map f (range_with_len 0 n)) (map g (range_with_len 0 n)) (length-map-range_with_len f 0 n ∙ sym (length-map-range_with_len g 0 n))
    (λ k d lt. let within : k < n = omega (arith, lt, length-map-range_with_len f 0 n) in
    get_or-map-range_with_len f 0 n k k d within (omega arith) ∙ h k within ∙ sym (get_or-map-range_with_len g 0 n k k d within (omega arith)))
