-- A walk over rules that counts positions finds what a look at each position of a set finds.
use Rattle.std.proofs.Common.{◌≡◌, ◌∙◌, ◌+◌, ◌&&◌, ◌||◌, ℕ, zero, suc, Bool, true, false, List, [], ◌∷◌, Option, None, Some, refl, sym, ap, subst, inl, inr, arith}
use Rattle.std.specs.List.{list_any, slice_get}
use Rattle.std.specs.Option.{option_map, option_to_list}
use Rattle.std.proofs.lemmas.Bool.{false≢true, and_parts, and_from, or_cases, or_left, or_right, cases_Bool}
use Rattle.std.proofs.lemmas.Option.{same_Some}
use Rattle.dd_concept.specs.declared.concept.Concept.{Concept}
use Rattle.dd_concept.specs.Normal.{nnf_not_of}
use Rattle.dd_concept.specs.Same.{has, is_same}
use Rattle.dd_concept.proofs.Sets.{same_tests}
use Rattle.dd_peer.specs.declared.version.Rule.{Rule}
use Rattle.dd_task.specs.Goals.{no_source_at}
use Rattle.dd_task.specs.Keys.{is_among}
use Rattle.dd_task.proofs.Places.{among-at, at-among}
use Rattle.dd_check.specs.Walked.{is_no_source_of, any_no_source_from}

module _ (set : List ℕ) (c : Concept) where
  -- what is found stands at a position of the set
  found : (j : ℕ) (rules : List Rule) → any_no_source_from set c j rules ≡ true
      → (k : ℕ) × (r : Rule) × (slice_get rules k ≡ Some r) × (is_no_source_of c r ≡ true) × (is_among set (j + k) ≡ true)
  found j [] e = absurd (false≢true e)
  found j (r ∷ rs) e = elim (or_cases (is_no_source_of c r && is_among set j) (any_no_source_from set c (j + 1) rs) e) [
    | inl here ↦
        let both = and_parts (is_no_source_of c r) (is_among set j) here in
        (0, r, refl, both.0, subst (λ n. is_among set n ≡ true) (let e : j ≡ j + 0 = omega arith in e) both.1)
    | inr later ↦
        let h = found (j + 1) rs later in
        (suc h.0, h.1, h.2, h.3, subst (λ n. is_among set n ≡ true) (let e : (j + 1) + h.0 ≡ j + suc h.0 = omega arith in e) h.4)
  ]

  -- and what stands at one is found
  finds : (j : ℕ) (rules : List Rule) (k : ℕ) (r : Rule) → slice_get rules k ≡ Some r → is_no_source_of c r ≡ true → is_among set (j + k) ≡ true
      → any_no_source_from set c j rules ≡ true
  finds j [] k r at is among = cc
  finds j (s ∷ rs) zero r at is among =
      or_left (is_no_source_of c s && is_among set j) (any_no_source_from set c (j + 1) rs)
      (and_from (is_no_source_of c s) (is_among set j) (ap (is_no_source_of c) (same_Some s r at) ∙ is)
      (subst (λ n. is_among set n ≡ true) (let e : j + 0 ≡ j = omega arith in e) among))
  finds j (s ∷ rs) (suc k) r at is among =
      or_right (is_no_source_of c s && is_among set j) (any_no_source_from set c (j + 1) rs)
      (finds (j + 1) rs k r at is (subst (λ n. is_among set n ≡ true) (let e : j + suc k ≡ (j + 1) + k = omega arith in e) among))

  -- ---- the same by the positions of the set

  at-none : (o : Option Rule) → has (option_to_list (option_map (λ (r : Rule). nnf_not_of r.source) o)) c ≡ true
      → (r : Rule) × (o ≡ Some r) × (is_no_source_of c r ≡ true)
  at-none None e = absurd (false≢true e)
  at-none (Some r) e = elim (or_cases (is_no_source_of c r) false e) [ inl t ↦ (r, refl, t) | inr f ↦ absurd (false≢true f) ]

  seen : (rules : List Rule) (ks : List ℕ) → list_any (λ k. has (no_source_at rules k) c) ks ≡ true
      → (k : ℕ) × (is_among ks k ≡ true) × (has (no_source_at rules k) c ≡ true)
  seen rules [] e = absurd (false≢true e)
  seen rules (k ∷ ks) e = elim (or_cases (has (no_source_at rules k) c) (list_any (λ n. has (no_source_at rules n) c) ks) e) [
    | inl here ↦ (k, at-among (k ∷ ks) 0 k refl, here)
    | inr later ↦ let h = seen rules ks later in (h.0, or_right _ (is_among ks h.0) h.1, h.2)
  ]

  sees : (rules : List Rule) (ks : List ℕ) (n k : ℕ) → slice_get ks n ≡ Some k → has (no_source_at rules k) c ≡ true
      → list_any (λ m. has (no_source_at rules m) c) ks ≡ true
  sees rules [] n k at is = cc
  sees rules (m ∷ ks) zero k at is =
      or_left (has (no_source_at rules m) c) (list_any (λ o. has (no_source_at rules o) c) ks)
      (ap (λ o. has (no_source_at rules o) c) (same_Some m k at) ∙ is)
  sees rules (m ∷ ks) (suc n) k at is =
      or_right (has (no_source_at rules m) c) (list_any (λ o. has (no_source_at rules o) c) ks) (sees rules ks n k at is)

  pub walked-is : (rules : List Rule) → any_no_source_from set c 0 rules ≡ list_any (λ k. has (no_source_at rules k) c) set
  walked-is rules = same_tests (any_no_source_from set c 0 rules) (list_any (λ k. has (no_source_at rules k) c) set) down up
    where
      down : any_no_source_from set c 0 rules ≡ true → list_any (λ k. has (no_source_at rules k) c) set ≡ true
      down e =
          let h = found 0 rules e in
          let among : is_among set h.0 ≡ true = subst (λ n. is_among set n ≡ true) (let z : 0 + h.0 ≡ h.0 = omega arith in z) h.4 in
          let place = among-at set h.0 among in
          sees rules set place.0 h.0 place.1
          (ap (λ o. has (option_to_list (option_map (λ (r : Rule). nnf_not_of r.source) o)) c) h.2 ∙ or_left (is_no_source_of c h.1) false h.3)

      up : list_any (λ k. has (no_source_at rules k) c) set ≡ true → any_no_source_from set c 0 rules ≡ true
      up e =
          let h = seen rules set e in
          let r = at-none (slice_get rules h.0) h.2 in
          finds 0 rules h.0 r.0 r.1 r.2 (subst (λ n. is_among set n ≡ true) (let z : h.0 ≡ 0 + h.0 = omega arith in z) h.1)
