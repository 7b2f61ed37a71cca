-- Numbers that are put into a list, each once, and the marks that tell which are there.
use Rattle.std.proofs.Common.{inl, inr, ◌≡◌, ℕ, suc, ◌<◌, ◌≤◌, List, [], ◌∷◌, ◌++◌, ◌||◌, length, get_or, Bool, true, false, cond, refl, ap, sym, ◌∙◌, subst, arith, replicate, ⊎_elim}
use Rattle.std.specs.Prelude.{◌==◌}
use Rattle.std.specs.List.{IsDistinct, list_any}
use Rattle.std.proofs.Math.ListN.{set}
use Rattle.std.proofs.lemmas.Bool.{cases_lt, cases_eq, cases_Bool, eq-eqb, ne_eqb, eqb-true, or_cases, or_left, or_right}
use Rattle.std.proofs.lemmas.Cmp.{nat_eq_equiv}
use Rattle.std.proofs.lemmas.List.{get_or-replicate, get_or-set_same, get_or-set_other, get_or_past, length-replicate, length-set, length_push}
use Rattle.std.proofs.lemmas.List.Folds.{list_any-append, list_any_at}
use Rattle.std.proofs.lemmas.Map.Keys.{IsDistinct-push}
use Rattle.std.proofs.lemmas.Map.Steps.{length-le_from_distinct_below}
use Rattle.dd_set.specs.Marked.{is_among, with_arrival, AreOnce, HasMarks}

-- the test the other way round, as std has it
pub among-flip : (n : ℕ) (ns : List ℕ) → list_any (λ m. n == m) ns ≡ is_among n ns
among-flip n [] = refl
among-flip n (m ∷ ns) = ap (λ b. b || list_any (λ k. n == k) ns) (nat_eq_equiv.symm n m) ∙ ap (λ b. (m == n) || b) (among-flip n ns)

-- what a number behind the others changes
pub among-push : (k n : ℕ) (ns : List ℕ) → is_among k (ns ++ n ∷ []) ≡ (is_among k ns || ((n == k) || false))
among-push k n ns = list_any-append (λ m. m == k) ns (n ∷ [])

pub among-push_same : (n : ℕ) (ns : List ℕ) → is_among n (ns ++ n ∷ []) ≡ true
among-push_same n ns = among-push n n ns ∙ or_right (is_among n ns) ((n == n) || false) (or_left (n == n) false (eq-eqb n n refl))

pub among-push_keeps : (k n : ℕ) (ns : List ℕ) → is_among k ns ≡ true → is_among k (ns ++ n ∷ []) ≡ true
among-push_keeps k n ns h = among-push k n ns ∙ or_left (is_among k ns) ((n == k) || false) h

pub among-push_other : (k n : ℕ) (ns : List ℕ) → (n ≡ k → ⊥) → is_among k (ns ++ n ∷ []) ≡ is_among k ns
among-push_other k n ns ne = among-push k n ns ∙ ap (λ b. is_among k ns || (b || false)) (ne_eqb n k ne) ∙ with_nothing (is_among k ns)
  where
    with_nothing : (b : Bool) → (b || false) ≡ b
    with_nothing true = refl
    with_nothing false = refl

-- by cases on whether the number is there
pub with_arrival-case : (P : List ℕ → Type 0) (ns : List ℕ) (n : ℕ) → (is_among n ns ≡ true → P ns)
    → (is_among n ns ≡ false → P (ns ++ n ∷ [])) → P (with_arrival ns n)
with_arrival-case P ns n there new = elim (cases_Bool (is_among n ns)) [
  | inl h ↦ subst (λ b. P (cond b ns (ns ++ n ∷ []))) (sym h) (there h)
  | inr h ↦ subst (λ b. P (cond b ns (ns ++ n ∷ []))) (sym h) (new h)
]

pub with_arrival-there : (ns : List ℕ) (n : ℕ) → is_among n ns ≡ true → with_arrival ns n ≡ ns
with_arrival-there ns n h = ap (λ b. cond b ns (ns ++ n ∷ [])) h

pub with_arrival-new : (ns : List ℕ) (n : ℕ) → is_among n ns ≡ false → with_arrival ns n ≡ ns ++ n ∷ []
with_arrival-new ns n h = ap (λ b. cond b ns (ns ++ n ∷ [])) h

-- the number is there then
pub among-with_arrival : (n : ℕ) (ns : List ℕ) → is_among n (with_arrival ns n) ≡ true
among-with_arrival n ns = with_arrival-case (λ r. is_among n r ≡ true) ns n (λ h. h) (λ h. among-push_same n ns)

-- and what was there still is
pub among-with_arrival_keeps : (k n : ℕ) (ns : List ℕ) → is_among k ns ≡ true → is_among k (with_arrival ns n) ≡ true
among-with_arrival_keeps k n ns h = with_arrival-case (λ r. is_among k r ≡ true) ns n (λ _. h) (λ _. among-push_keeps k n ns h)

-- where a number stands
pub place_among : (a : ℕ) (ns : List ℕ) → is_among a ns ≡ true → (k : ℕ) × (k < length ns) × (get_or ns k 0 ≡ a)
place_among a [] h = cc
place_among a (n ∷ ns) h = elim (or_cases (n == a) (is_among a ns) h) [
  | inl e ↦ (0, omega arith, eqb-true n a e)
  | inr r ↦ let p = place_among a ns r in (suc p.0, omega arith, p.2)
]

-- what stands in the list is there
pub among-at : (ns : List ℕ) (k : ℕ) → k < length ns → is_among (get_or ns k 0) ns ≡ true
among-at ns k h = list_any_at (λ m. m == get_or ns k 0) ns k 0 h (eq-eqb (get_or ns k 0) (get_or ns k 0) refl)

-- ---- numbers that are there once

pub distinct-push : (ns : List ℕ) (n : ℕ) → IsDistinct (λ a b. a == b) ns → is_among n ns ≡ false → IsDistinct (λ a b. a == b) (ns ++ n ∷ [])
distinct-push ns n distinct new = IsDistinct-push nat_eq_equiv ns n distinct (among-flip n ns ∙ new)

pub once-few : (bound : ℕ) (ns : List ℕ) → IsDistinct (λ a b. a == b) ns → ((n : ℕ) → is_among n ns ≡ true → n < bound) → length ns ≤ bound
once-few bound ns distinct below = length-le_from_distinct_below ns bound distinct (λ q h. below q (sym (among-flip q ns) ∙ h))

-- one more number below the bound
pub once-with_arrival : (bound : ℕ) (ns : List ℕ) (n : ℕ) → AreOnce bound ns → n < bound → AreOnce bound (with_arrival ns n)
once-with_arrival bound ns n once low = with_arrival-case (AreOnce bound) ns n (λ _. once) (λ new.
    let distinct = distinct-push ns n once.distinct new in
    let below : (k : ℕ) → is_among k (ns ++ n ∷ []) ≡ true → k < bound = λ k there. elim (cases_eq n k) [
      | inl e ↦ subst (λ m. m < bound) e low
      | inr ne ↦ once.below k (sym (among-push_other k n ns ne) ∙ there)
    ] in
    record { distinct = distinct; below = below; few = once-few bound (ns ++ n ∷ []) distinct below })

pub once-none : (bound : ℕ) → AreOnce bound []
unfolding IsDistinct
once-none bound = record { distinct = tt; below = λ n h. cc; few = omega arith }

-- ---- marks

pub marks-start : (bound : ℕ) → HasMarks (replicate bound false) []
marks-start bound = record {
  agree = λ n. ⊎_elim
      (λ low. get_or-replicate bound n false false low)
      (λ high. get_or_past (replicate bound false) n false (omega (arith, length-replicate {A = Bool} bound false, high)))
      (cases_lt n bound);
  once = once-none (length (replicate bound false));
}

pub marks-push : (marks : List Bool) (ns : List ℕ) (n : ℕ) → HasMarks marks ns → n < length marks → get_or marks n false ≡ false
    → HasMarks (set marks n true) (ns ++ n ∷ [])
marks-push marks ns n h low clear =
    let new : is_among n ns ≡ false = sym (h.agree n) ∙ clear in
    let more : AreOnce (length marks) (ns ++ n ∷ []) = subst (AreOnce (length marks)) (with_arrival-new ns n new) (once-with_arrival (length marks) ns n h.once low) in
    record {
      agree = λ k. elim (cases_eq n k) [
        | inl e ↦ ap (λ j. get_or (set marks n true) j false) (sym e) ∙ get_or-set_same marks n true false low ∙ sym (among-push_same n ns) ∙ ap (λ j. is_among j (ns ++ n ∷ [])) e
        | inr ne ↦ get_or-set_other marks n k true false (λ e. ne (sym e)) ∙ h.agree k ∙ sym (among-push_other k n ns ne)
      ];
      once = subst (λ bound. AreOnce bound (ns ++ n ∷ [])) (sym (length-set marks n true)) more;
    }

-- a number that is not marked finds room
pub marks-room : (marks : List Bool) (ns : List ℕ) (n : ℕ) → HasMarks marks ns → n < length marks → get_or marks n false ≡ false → length ns < length marks
marks-room marks ns n h low clear =
    let few = (marks-push marks ns n h low clear).once.few in
    omega (arith, few, length_push ns n, length-set marks n true)
