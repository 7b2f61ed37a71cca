-- A step that is found, and none that is found.
use Rattle.std.proofs.Common.{◌≡◌, ◌∙◌, ◌||◌, ◌&&◌, ◌==◌, sym, refl, ap, subst, ℕ, zero, suc, Bool, true, false, not, List, [], ◌∷◌, map, slice_get, Option, None, Some, inl, inr}
use Rattle.std.specs.Prelude.{IfSome}
use Rattle.std.specs.List.{list_any, list_all}
use Rattle.std.specs.Option.{option_map, option_map_or}
use Rattle.std.proofs.lemmas.Bool.{false≢true, and_from, and_parts, or_left, or_right, cases_Bool, cond-true, cond-false, eq-eqb, not-true}
use Rattle.std.proofs.lemmas.Option.{slice_get-map}
use Rattle.dd_rules.specs.declared.shape.Shape.{Shape}
use Rattle.dd_rules.specs.declared.shape.Shape.TheVariants as shape
use Rattle.dd_rules.specs.declared.shape.Step.{Step}
use Rattle.dd_rules.specs.declared.shape.Step.TheVariants as way
use Rattle.dd_rules.specs.declared.tables.AxiomNumbers.{AxiomNumbers}
use Rattle.dd_rules.specs.Forced.{adds_number, and_numbers, forces}
use Rattle.dd_rules.specs.Numbers.{Rules, PropNumbers, all_at, calls_for, decides_axiom, decides_or, decides_prop, is_complete, is_open_or, is_saturated, keeps_and, keeps_axiom, has_joined}
use Rattle.dd_rules.specs.Tables.{prop_with, step_of_prop}
use Rattle.dd_rules.proofs.Lifting.{there}
use Rattle.dd_rules.proofs.Numbered.{all_at-each}
use Rattle.dd_rules.proofs.Walks.{list_all-each}

-- ---- forced steps

pub forces-open : (r : Rules) (p : ℕ → Bool) (s : Step) → forces r p s ≡ true → is_saturated r p ≡ true → ⊥
forces-open r p (way.And n) h k =
    let found = there (slice_get r.shapes n) (λ s. not (keeps_and p n s)) h in
    let kept = all_at-each (keeps_and p) r.shapes n found.0 (and_parts (all_at (keeps_and p) r.shapes) (list_all (keeps_axiom p) r.axioms) k).0 found.1 in
    false≢true (sym (not-true (keeps_and p n found.0) found.2) ∙ kept)
forces-open r p (way.Axiom n) h k =
    let found = there (slice_get r.axioms n) (λ a. not (keeps_axiom p a)) h in
    let kept = list_all-each (keeps_axiom p) r.axioms (and_parts (all_at (keeps_and p) r.shapes) (list_all (keeps_axiom p) r.axioms) k).1 n found.0 found.1 in
    false≢true (sym (not-true (keeps_axiom p found.0) found.2) ∙ kept)
forces-open r p (way.Or n) h k = false≢true h
forces-open r p (way.Cut n) h k = false≢true h
forces-open r p (way.Bridge n) h k = false≢true h

pub forced-none : (r : Rules) (p : ℕ → Bool) (o : Option Step) → IfSome o (λ s. forces r p s ≡ true) → is_saturated r p ≡ true → o ≡ None
forced-none r p None h k = refl
forced-none r p (Some s) h k = absurd (forces-open r p s h k)

-- two rules with the same shapes and axioms force the same
pub forces-same : (r q : Rules) (p : ℕ → Bool) → r.shapes ≡ q.shapes → r.axioms ≡ q.axioms → (s : Step) → forces r p s ≡ forces q p s
forces-same r q p e f (way.And n) = ap (λ shapes. option_map_or (λ s. not (keeps_and p n s)) (slice_get shapes n) false) e
forces-same r q p e f (way.Axiom k) = ap (λ axioms. option_map_or (λ a. not (keeps_axiom p a)) (slice_get axioms k) false) f
forces-same r q p e f (way.Or n) = refl
forces-same r q p e f (way.Cut n) = refl
forces-same r q p e f (way.Bridge k) = refl

and-adds : (p : ℕ → Bool) (n : ℕ) (s : Shape) → not (keeps_and p n s) ≡ true → list_any (λ m. not (p m)) (and_numbers s) ≡ true
and-adds p n (shape.And a b) h = apart (p n) (p a) (p b) h
  where
    apart : (x y z : Bool) → not (not x || (y && z)) ≡ true → (not y || (not z || false)) ≡ true
    apart x false z h = refl
    apart x true false h = refl
    apart true true true h = absurd (false≢true h)
    apart false true true h = absurd (false≢true h)
and-adds p n shape.Top h = absurd (false≢true h)
and-adds p n shape.Bottom h = absurd (false≢true h)
and-adds p n (shape.Name a) h = absurd (false≢true h)
and-adds p n (shape.Not a) h = absurd (false≢true h)
and-adds p n (shape.Or a b) h = absurd (false≢true h)
and-adds p n (shape.HasSome a b) h = absurd (false≢true h)
and-adds p n (shape.HasAll a b) h = absurd (false≢true h)

axiom-adds : (j x : Bool) → not (not j || x) ≡ true → (not x || false) ≡ true
axiom-adds j false h = refl
axiom-adds true true h = absurd (false≢true h)
axiom-adds false true h = absurd (false≢true h)

-- a forced step adds a number
forces-adds : (r : Rules) (p : ℕ → Bool) (s : Step) → forces r p s ≡ true → adds_number r p s ≡ true
forces-adds r p (way.And n) h =
    let found = there (slice_get r.shapes n) (λ s. not (keeps_and p n s)) h in
    ap (λ o. list_any (λ m. not (p m)) (option_map_or and_numbers o [])) found.1 ∙ and-adds p n found.0 found.2
forces-adds r p (way.Axiom k) h =
    let found = there (slice_get r.axioms k) (λ a. not (keeps_axiom p a)) h in
    ap (λ o. list_any (λ m. not (p m)) (option_map_or (λ (a : AxiomNumbers). a.right ∷ []) o [])) found.1 ∙ axiom-adds (has_joined p found.0.joined) (p found.0.right) found.2
forces-adds r p (way.Or n) h = absurd (false≢true h)
forces-adds r p (way.Cut n) h = absurd (false≢true h)
forces-adds r p (way.Bridge k) h = absurd (false≢true h)

-- what is found under rules with the same shapes and axioms adds a number
pub forced-adds : (r q : Rules) (p : ℕ → Bool) (o : Option Step) → r.shapes ≡ q.shapes → r.axioms ≡ q.axioms → IfSome o (λ s. forces r p s ≡ true) → IfSome o (λ s. adds_number q p s ≡ true)
forced-adds r q p None e f h = h
forced-adds r q p (Some s) e f h = forces-adds q p s (sym (forces-same r q p e f s) ∙ h)

-- ---- choices

open-decides : (p : ℕ → Bool) (n : ℕ) (s : Shape) → is_open_or p n s ≡ true → decides_or p n s ≡ true → ⊥
open-decides p n (shape.Or a b) h k = apart (p n) (p a || p b) h k
  where
    apart : (x y : Bool) → (x && not y) ≡ true → (not x || y) ≡ true → ⊥
    apart true true h k = false≢true h
    apart true false h k = false≢true k
    apart false y h k = false≢true h
open-decides p n _ h k = false≢true h

pub open-or : (p : ℕ → Bool) (n : ℕ) (s : Shape) → decides_or p n s ≡ false → is_open_or p n s ≡ true
open-or p n (shape.Or a b) h = apart (p n) (p a || p b) h
  where
    apart : (x y : Bool) → (not x || y) ≡ false → (x && not y) ≡ true
    apart true true h = cc
    apart true false h = refl
    apart false y h = cc
open-or p n shape.Top h = cc
open-or p n shape.Bottom h = cc
open-or p n (shape.Name a) h = cc
open-or p n (shape.Not a) h = cc
open-or p n (shape.And a b) h = cc
open-or p n (shape.HasSome a b) h = cc
open-or p n (shape.HasAll a b) h = cc

get-some : {A : Type 0} (o : Option A) (x : A) (t : A → Bool) → o ≡ Some x → t x ≡ true → option_map_or t o false ≡ true
get-some o x t e h = ap (λ z. option_map_or t z false) e ∙ h

module _ (r : Rules) (p : ℕ → Bool) where
  ors : is_complete r p ≡ true → all_at (decides_or p) r.shapes ≡ true
  ors k = (and_parts (all_at (decides_or p) r.shapes) (list_all (decides_axiom p) r.axioms && list_all (decides_prop p) r.props) k).0

  rest : is_complete r p ≡ true → (list_all (decides_axiom p) r.axioms ≡ true) × (list_all (decides_prop p) r.props ≡ true)
  rest k = and_parts (list_all (decides_axiom p) r.axioms) (list_all (decides_prop p) r.props)
      (and_parts (all_at (decides_or p) r.shapes) (list_all (decides_axiom p) r.axioms && list_all (decides_prop p) r.props) k).1

  no_cut : (n : ℕ) (ts : List PropNumbers) → list_any (λ (t : PropNumbers). (t.onto == n) && not (decides_prop p t)) ts ≡ true → list_all (decides_prop p) ts ≡ true → ⊥
  no_cut n [] h k = false≢true h
  no_cut n (t ∷ ts) h k =
      let both = and_parts (decides_prop p t) (list_all (decides_prop p) ts) k in
      no_cut n ts (sym (ap (λ b. b || list_any (λ (t : PropNumbers). (t.onto == n) && not (decides_prop p t)) ts) (shut (t.onto == n) (decides_prop p t) both.0)) ∙ h) both.1
    where
      shut : (a b : Bool) → b ≡ true → (a && not b) ≡ false
      shut true true e = refl
      shut true false e = cc
      shut false b e = refl

  pub calls-open : (s : Step) → calls_for r p s ≡ true → is_complete r p ≡ true → ⊥
  calls-open (way.And n) h k = false≢true h
  calls-open (way.Or n) h k =
      let found = there (slice_get r.shapes n) (is_open_or p n) h in
      open-decides p n found.0 found.2 (all_at-each (decides_or p) r.shapes n found.0 (ors k) found.1)
  calls-open (way.Axiom n) h k =
      let found = there (slice_get r.axioms n) (λ a. not (decides_axiom p a)) h in
      false≢true (sym (not-true (decides_axiom p found.0) found.2) ∙ list_all-each (decides_axiom p) r.axioms (rest k).0 n found.0 found.1)
  calls-open (way.Cut n) h k = no_cut n r.props (and_parts (not (p n)) (list_any (λ (t : PropNumbers). (t.onto == n) && not (decides_prop p t)) r.props) h).1 (rest k).1
  calls-open (way.Bridge n) h k =
      let found = there (slice_get r.props n) (λ (t : PropNumbers). p t.onto && not (decides_prop p t)) h in
      let both = and_parts (p found.0.onto) (not (decides_prop p found.0)) found.2 in
      false≢true (sym (not-true (decides_prop p found.0) both.1) ∙ list_all-each (decides_prop p) r.props (rest k).1 n found.0 found.1)

  pub choice-none : (o : Option Step) → IfSome o (λ s. calls_for r p s ≡ true) → is_complete r p ≡ true → o ≡ None
  choice-none None h k = refl
  choice-none (Some s) h k = absurd (calls-open s h k)

  any-at : (t : PropNumbers → Bool) (ts : List PropNumbers) (k : ℕ) (x : PropNumbers) → slice_get ts k ≡ Some x → t x ≡ true → list_any t ts ≡ true
  any-at t [] k x e h = cc
  any-at t (y ∷ ys) zero x e h = or_left (t y) (list_any t ys) (subst (λ z. t z ≡ true) (sym (same y x e)) h)
    where
      same : (a b : PropNumbers) → Some a ≡ Some b → a ≡ b
      same a b e = cc
  any-at t (y ∷ ys) (suc k) x e h = or_right (t y) (list_any t ys) (any-at t ys k x e h)

  -- the step of a propagation that is not decided is called for
  pub prop-called : (joined : List (Option (List (Option ℕ)))) (props : List (ℕ × ℕ × List ℕ)) (k : ℕ) (t : ℕ × ℕ × List ℕ) → r.props ≡ map (prop_with joined) props
      → slice_get props k ≡ Some t → decides_prop p (prop_with joined t) ≡ false → calls_for r p (step_of_prop p k t) ≡ true
  prop-called joined props k t is e h =
      let at : slice_get r.props k ≡ Some (prop_with joined t) = ap (λ ts. slice_get ts k) is ∙ slice_get-map (prop_with joined) props k ∙ ap (option_map (prop_with joined)) e in
      elim (cases_Bool (p t.0)) [
        | inl there' ↦ ap (calls_for r p) (cond-true (p t.0) (way.Bridge k) (way.Cut t.0) there')
            ∙ get-some (slice_get r.props k) (prop_with joined t) (λ (x : PropNumbers). p x.onto && not (decides_prop p x)) at
            (and_from (p t.0) (not (decides_prop p (prop_with joined t))) there' (ap not h))
        | inr absent ↦ ap (calls_for r p) (cond-false (p t.0) (way.Bridge k) (way.Cut t.0) absent)
            ∙ and_from (not (p t.0)) (list_any (λ (x : PropNumbers). (x.onto == t.0) && not (decides_prop p x)) r.props) (ap not absent)
            (any-at (λ (x : PropNumbers). (x.onto == t.0) && not (decides_prop p x)) r.props k (prop_with joined t) at
            (and_from (t.0 == t.0) (not (decides_prop p (prop_with joined t))) (eq-eqb t.0 t.0 refl) (ap not h)))
      ]

  -- the tests of the three kinds of steps are the test of complete
  pub complete-from : (joined : List (Option (List (Option ℕ)))) (props : List (ℕ × ℕ × List ℕ)) → r.props ≡ map (prop_with joined) props
      → all_at (decides_or p) r.shapes ≡ true → list_all (decides_axiom p) r.axioms ≡ true → list_all (λ t. decides_prop p (prop_with joined t)) props ≡ true → is_complete r p ≡ true
  complete-from joined props is h k l = and_from (all_at (decides_or p) r.shapes) (list_all (decides_axiom p) r.axioms && list_all (decides_prop p) r.props) h
      (and_from (list_all (decides_axiom p) r.axioms) (list_all (decides_prop p) r.props) k (ap (list_all (decides_prop p)) is ∙ images props l))
    where
      images : (ts : List (ℕ × ℕ × List ℕ)) → list_all (λ t. decides_prop p (prop_with joined t)) ts ≡ true → list_all (decides_prop p) (map (prop_with joined) ts) ≡ true
      images [] e = refl
      images (t ∷ ts) e =
          let both = and_parts (decides_prop p (prop_with joined t)) (list_all (λ x. decides_prop p (prop_with joined x)) ts) e in
          and_from (decides_prop p (prop_with joined t)) (list_all (decides_prop p) (map (prop_with joined) ts)) both.0 (images ts both.1)
