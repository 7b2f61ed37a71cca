-- What a label passes on along a role, from the numbers that were looked at.
use Rattle.std.proofs.Common.{◌≡◌, ◌∙◌, ◌||◌, ◌&&◌, ◌+◌, sym, subst, ℕ, Bool, true, false, List, slice_get, None, Some, inl, inr}
use Rattle.std.proofs.lemmas.Bool.{false≢true, or_cases, or_left, or_right, and_from, and_parts}
use Rattle.dd_concept.proofs.Sets.{same_tests}
use Rattle.dd_set.specs.Words.{has, IsNext}
use Rattle.dd_rules.specs.declared.shape.Shape.{Shape}
use Rattle.dd_rules.specs.Numbers.{any_at, is_all}
use Rattle.dd_rules.proofs.Numbered.{any_at-some, any_at-from}
use Rattle.dd_rules.proofs.Walks.{EachBelow, walk-next, walk-end, each-start}

-- does the concept at the number pass the number k on
abbrev pub passes : (ℕ → Bool) → ℕ → ℕ → ℕ → Shape → Bool
passes p role k n s = p n && is_all role k s

-- the label q has what the old one has, all that the concepts below the bound pass on, and nothing else
pub record IsPassedBelow (shapes : List Shape) (p : ℕ → Bool) (role : ℕ) (old q : ℕ → Bool) (bound : ℕ) : Type 0 where
  pub kept : (k : ℕ) → old k ≡ true → q k ≡ true
  pub there : (k : ℕ) → EachBelow (λ n s. passes p role k n s ≡ true → q k ≡ true) shapes bound
  pub only : (k : ℕ) → q k ≡ true → (old k || any_at (passes p role k) shapes) ≡ true

pub passed-start : (shapes : List Shape) (p : ℕ → Bool) (role : ℕ) (old : ℕ → Bool) → IsPassedBelow shapes p role old old 0
passed-start shapes p role old = record {
  kept = λ k h. h;
  there = λ k. each-start (λ n s. passes p role k n s ≡ true → old k ≡ true) shapes;
  only = λ k h. or_left (old k) (any_at (passes p role k) shapes) h;
}

module _ (shapes : List Shape) (words : List ℕ) (role : ℕ) (old : ℕ → Bool) where
  abbrev p : ℕ → Bool
  p = has words

  idle : (q : ℕ → Bool) (k n : ℕ) (s : Shape) → has words n ≡ false → passes p role k n s ≡ true → q k ≡ true
  idle q k n s h t = absurd (false≢true (sym h ∙ (and_parts (has words n) (is_all role k s) t).0))

  pub passed-next : (q new : ℕ → Bool) (from m : ℕ) (s : Shape) → slice_get shapes m ≡ Some s → ((k : ℕ) → new k ≡ (is_all role k s || q k)) → IsNext words from (Some m)
      → IsPassedBelow shapes p role old q from → IsPassedBelow shapes p role old new (m + 1)
  passed-next q new from m s e with next h = record {
    kept = λ k t. up k (h.kept k t);
    there = λ k. walk-next (λ n z. passes p role k n z ≡ true → new k ≡ true) words shapes from m (idle new k) next (λ n z low at t. up k (h.there k n z low at t))
        (λ z at t. with k ∙ or_left (is_all role k s) (q k) (subst (λ y. is_all role k y ≡ true) (same z at) (and_parts (p m) (is_all role k z) t).1));
    only = λ k t. elim (or_cases (is_all role k s) (q k) (sym (with k) ∙ t)) [
      | inl fresh ↦ or_right (old k) (any_at (passes p role k) shapes) (any_at-from (passes p role k) shapes m s e (and_from (p m) (is_all role k s) next.1 fresh))
      | inr before ↦ h.only k before
    ];
  }
    where
      up : (k : ℕ) → q k ≡ true → new k ≡ true
      up k t = with k ∙ or_right (is_all role k s) (q k) t

      same : (z : Shape) → slice_get shapes m ≡ Some z → z ≡ s
      same z at = some (sym at ∙ e)
        where
          some : {a b : Shape} → Some a ≡ Some b → a ≡ b
          some x = cc

  pub passed-end : (q : ℕ → Bool) (from : ℕ) → IsNext words from None → IsPassedBelow shapes p role old q from
      → (k : ℕ) → q k ≡ (old k || any_at (passes p role k) shapes)
  passed-end q from next h k = same_tests (q k) (old k || any_at (passes p role k) shapes) (h.only k) (λ t. elim (or_cases (old k) (any_at (passes p role k) shapes) t) [
    | inl before ↦ h.kept k before
    | inr passed ↦
        let found = any_at-some (passes p role k) shapes passed in
        walk-end (λ n z. passes p role k n z ≡ true → q k ≡ true) words shapes from (idle q k) next (h.there k) found.0 found.1 found.2 found.3
  ])
