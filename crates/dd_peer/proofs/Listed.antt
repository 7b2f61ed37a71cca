-- The numbers that have a mark, as a rising list.
use Rattle.std.proofs.Common.{if◌then◌else◌, add-one, eqb-true, ◌≤◌, ◌≡◌, ◌∙◌, sym, refl, ap, subst, ℕ, zero, suc, ◌<◌, ◌+◌, ◌==◌, Bool, true, false, cond, List, [], ◌∷◌, ◌++◌, length, filter, inl, inr, arith, get_or}
use Rattle.std.specs.List.{range_with_len}
use Rattle.std.specs.List.Sorted.{IsStrictlyIncreasing}
use Rattle.std.proofs.lemmas.Bool.{or_cases, or_left, or_right, cases_eq, cases_Bool, false≢true, eq-eqb}
use Rattle.std.proofs.lemmas.List.Elements.{filter-append}
use Rattle.std.proofs.lemmas.List.Kept.{IsStrictlyIncreasing-filter}
use Rattle.std.proofs.lemmas.List.FromFn.{length-range_with_len, get_or-range_with_len}
use Rattle.dd_peer.specs.declared.version.Pinned.{Pinned}
use Rattle.dd_peer.specs.Relevant.{AreRelevant, is_in}
use Rattle.dd_peer.specs.Marks.{is_marked, MarksRelevant}
use Rattle.dd_peer.proofs.Marking.{marked-low, marked-get}

range-end : (a n : ℕ) → range_with_len a (suc n) ≡ range_with_len a n ++ (a + n) ∷ []
range-end a zero = ap (λ x. x ∷ []) (omega arith)
range-end a (suc n) = ap (λ xs. a ∷ xs) (range-end (a + 1) n ∙ ap (λ x. range_with_len (a + 1) n ++ x ∷ []) (omega arith))

-- one number more
pub list-more : (p : ℕ → Bool) (k n : ℕ) → n ≡ k + 1 → filter p (range_with_len 0 n) ≡ filter p (range_with_len 0 k) ++ cond (p k) (k ∷ []) []
list-more p k n e = ap (λ m. filter p (range_with_len 0 m)) (e ∙ add-one k) ∙ (ap (filter p) (range-end 0 k ∙ ap (λ x. range_with_len 0 k ++ x ∷ []) (omega arith)) ∙ filter-append p (range_with_len 0 k) (k ∷ []))

range-rises : (n : ℕ) → IsStrictlyIncreasing (range_with_len 0 n)
range-rises n k low =
    let len = length-range_with_len 0 n in
    let here = get_or-range_with_len 0 n k 0 (omega (arith, low, len)) in
    let next = get_or-range_with_len 0 n (k + 1) 0 (omega (arith, low, len)) in
    omega (arith, here, next)

in-range : (a n i : ℕ) → a ≤ i → i < a + n → is_in (range_with_len a n) i ≡ true
in-range a zero i le lt = absurd (omega (arith, le, lt))
in-range a (suc n) i le lt = elim (cases_eq a i) [
  | inl e ↦ or_left (a == i) (is_in (range_with_len (a + 1) n) i) (eq-eqb a i e)
  | inr ne ↦ or_right (a == i) (is_in (range_with_len (a + 1) n) i) (in-range (a + 1) n i (omega (arith, le, ne)) (omega (arith, lt)))
]

in-filter : (p : ℕ → Bool) (xs : List ℕ) (i : ℕ) → is_in xs i ≡ true → p i ≡ true → is_in (filter p xs) i ≡ true
in-filter p [] i h t = h
in-filter p (x ∷ xs) i h t = elim (or_cases (x == i) (is_in xs i) h) [
  | inl e ↦
      let is : x ≡ i = eqb-true x i e in
      subst (λ b. is_in (cond b (x ∷ filter p xs) (filter p xs)) i ≡ true) (sym (ap p is ∙ t)) (or_left (x == i) (is_in (filter p xs) i) e)
  | inr g ↦ elim (cases_Bool (p x)) [
    | inl b ↦ subst (λ b. is_in (cond b (x ∷ filter p xs) (filter p xs)) i ≡ true) (sym b) (or_right (x == i) (is_in (filter p xs) i) (in-filter p xs i g t))
    | inr b ↦ subst (λ b. is_in (cond b (x ∷ filter p xs) (filter p xs)) i ≡ true) (sym b) (in-filter p xs i g t)
  ]
]

from-filter : (p : ℕ → Bool) (xs : List ℕ) (i : ℕ) → is_in (filter p xs) i ≡ true → p i ≡ true
from-filter p [] i h = absurd (false≢true h)
from-filter p (x ∷ xs) i h = elim (cases_Bool (p x)) [
  | inl b ↦ elim (or_cases (x == i) (is_in (filter p xs) i) (subst (λ b. is_in (cond b (x ∷ filter p xs) (filter p xs)) i ≡ true) b h)) [
    | inl e ↦ ap p (sym (eqb-true x i e)) ∙ b
    | inr g ↦ from-filter p xs i g
  ]
  | inr b ↦ from-filter p xs i (subst (λ b. is_in (cond b (x ∷ filter p xs) (filter p xs)) i ≡ true) b h)
]

pub listed-relevant : (p : Pinned) (j : ℕ) (marks : List Bool) (list : List ℕ) → MarksRelevant p j marks
    → list ≡ filter (is_marked marks) (range_with_len 0 (length marks)) → AreRelevant p j list
listed-relevant p j marks list relevant e =
    let all = range_with_len 0 (length marks) in
    record {
      rising = subst IsStrictlyIncreasing (sym e) (IsStrictlyIncreasing-filter (is_marked marks) all (range-rises (length marks)));
      exactly = λ i. (
        λ h. (relevant.exactly i).0 (from-filter (is_marked marks) all i (sym (ap (λ xs. is_in xs i) e) ∙ h)),
        λ r. let t = (relevant.exactly i).1 r in
            ap (λ xs. is_in xs i) e ∙ in-filter (is_marked marks) all i (in-range 0 (length marks) i (omega arith) (let low = marked-low marks i t in omega (arith, low))) t,
      );
    }

pub pushed-next : (marks : List Bool) (k peer : ℕ) (list more : List ℕ) → peer ≡ k → list ≡ filter (is_marked marks) (range_with_len 0 k)
    → more ≡ list ++ (if get_or marks k false then peer ∷ [] else []) → more ≡ filter (is_marked marks) (range_with_len 0 (k + 1))
pushed-next marks k peer list more same so_far e =
    let flag : (if get_or marks k false then peer ∷ [] else []) ≡ cond (is_marked marks k) (k ∷ []) [] =
    ap (λ n. cond (get_or marks k false) (n ∷ []) []) same ∙ ap (λ b. cond b (k ∷ []) []) (sym (marked-get marks k)) in
    e ∙ (ap (λ xs. list ++ xs) flag ∙ (ap (λ xs. xs ++ cond (is_marked marks k) (k ∷ []) []) so_far ∙ sym (list-more (is_marked marks) k (k + 1) refl)))
