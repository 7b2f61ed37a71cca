-- Labels of lines against sets of numbers.
use Rattle.std.proofs.Common.{◌≡◌, ◌∙◌, ◌<◌, ◌+◌, ◌||◌, ◌&&◌, ◌↔◌, ◌⊎◌, sym, ap, subst, ℕ, zero, suc, Bool, true, false, IsTrue, List, [], ◌∷◌, length, slice_get, get_or, All, take, Some, inl, inr, arith}
use Rattle.std.proofs.lemmas.Bool.{false≢true, and_from, and_parts, or_cases, or_left, or_right}
use Rattle.std.proofs.lemmas.Option.{same_Some, slice_get-get_or}
use Rattle.dd_graph.proofs.Lists.{place_at as item}
use Rattle.dd_set.specs.Words.{has, IsPacked, IsWithin}
use Rattle.dd_close.specs.Drafts.{IsLine}
use Rattle.dd_close.specs.Parts.{AddsPart, ArePartsOf}
use Rattle.dd_close.specs.declared.draft.Book.{Book}

-- sets of one width have as many words
pub same-words : (width : ℕ) (a b : List ℕ) → IsPacked width a → IsPacked width b → length a ≡ length b
same-words width a b p q = omega (arith, p.enough, p.tight, q.enough, q.tight)

-- a test of the label is one of the line
pub line-test : (b : Book) (line : ℕ) (set label : List ℕ) (t : Bool) → slice_get b.table.list line ≡ Some label → line < length b.table.list
    → (IsTrue t ↔ IsWithin label set) → IsTrue t ↔ IsLine b (has set) line
line-test b line set label t at lt h = (
  λ yes_. record { label = label; earlier = lt; there = at; within = h.0 yes_ },
  λ l. h.1 (subst (λ w. IsWithin w set) (same_Some l.label label (sym l.there ∙ at)) l.within),
)

pub adds-part : (labels : List (List ℕ)) (line : ℕ) (set old new label part : List ℕ) → slice_get labels line ≡ Some label
    → ((k : ℕ) → has part k ≡ (has label k && has set k)) → ((k : ℕ) → has new k ≡ (has old k || has part k)) → AddsPart labels line (has set) (has old) (has new)
adds-part labels line set old new label part at both union l e k =
    union k ∙ ap (λ b. has old k || b) (both k) ∙ ap (λ w. has old k || (has w k && has set k)) (same_Some label l (sym at ∙ e))

pub parts-start : (labels : List (List ℕ)) (set p : ℕ → Bool) → ((k : ℕ) → p k ≡ false) → ArePartsOf labels [] set p
parts-start labels set p none = record { within = λ k e. absurd (false≢true (sym (none k) ∙ e)); each = λ i m l e. cc }

-- one line more
pub parts-next : (labels : List (List ℕ)) (lines : List ℕ) (at line : ℕ) (set p q : ℕ → Bool) (label : List ℕ) → slice_get lines at ≡ Some line → slice_get labels line ≡ Some label
    → ArePartsOf labels (take at lines) set p → AddsPart labels line set p q → ArePartsOf labels (take (at + 1) lines) set q
parts-next labels lines at line set p q label here there h adds = record {
  within = λ k e. elim (or_cases (p k) (has label k && set k) (sym (adds label there k) ∙ e)) [
    | inl t ↦ h.within k t
    | inr t ↦ (and_parts (has label k) (set k) t).1
  ];
  each = λ i m l e f k t s. by lines at i here (subst (λ n. slice_get (take n lines) i ≡ Some m) step e) l f k t s h;
}
  where
    step : at + 1 ≡ suc at
    step = omega arith

    old : (l : List ℕ) (k : ℕ) → p k ≡ true → q k ≡ true
    old l k t = adds label there k ∙ or_left (p k) (has label k && set k) t

    new : (l : List ℕ) (m : ℕ) → line ≡ m → slice_get labels m ≡ Some l → (k : ℕ) → has l k ≡ true → set k ≡ true → q k ≡ true
    new l m is f k t s =
        let same : label ≡ l = same_Some label l (sym there ∙ ap (slice_get labels) is ∙ f) in
        adds label there k ∙ or_right (p k) (has label k && set k) (and_from (has label k) (set k) (subst (λ w. has w k ≡ true) (sym same) t) s)

    split : (xs : List ℕ) (at i m : ℕ) → slice_get xs at ≡ Some line → slice_get (take (suc at) xs) i ≡ Some m → (slice_get (take at xs) i ≡ Some m) ⊎ (line ≡ m)
    split [] at i m here e = cc
    split (x ∷ xs) zero zero m here e = inr (sym (same_Some x line here) ∙ same_Some x m e)
    split (x ∷ xs) zero (suc i) m here e = cc
    split (x ∷ xs) (suc at) zero m here e = inl e
    split (x ∷ xs) (suc at) (suc i) m here e = split xs at i m here e

    by : (xs : List ℕ) (at i : ℕ) {m : ℕ} → slice_get xs at ≡ Some line → slice_get (take (suc at) xs) i ≡ Some m → (l : List ℕ) → slice_get labels m ≡ Some l
        → (k : ℕ) → has l k ≡ true → set k ≡ true → ArePartsOf labels (take at xs) set p → q k ≡ true
    by xs at i here e l f k t s parts = elim (split xs at i _ here e) [
      | inl before ↦ old l k (parts.each i _ l before f k t s)
      | inr is ↦ new l _ is f k t s
    ]

-- the next of the lines, which are all there
pub parts-more : (labels : List (List ℕ)) (lines : List ℕ) (at d : ℕ) (set p q : ℕ → Bool) → All (λ m. m < length labels) lines → at < length lines
    → ArePartsOf labels (take at lines) set p → AddsPart labels (get_or lines at d) set p q → ArePartsOf labels (take (at + 1) lines) set q
parts-more labels lines at d set p q all lt h adds =
    let label = item labels (get_or lines at d) (all at d lt) in
    parts-next labels lines at (get_or lines at d) set p q label.0 (slice_get-get_or lines at d lt) label.1 h adds
