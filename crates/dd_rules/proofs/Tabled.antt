-- The rules by a peer's tables are those of its closure, and what is said by numbers holds of concepts.
use Rattle.std.proofs.Common.{◌≡◌, ◌∙◌, ◌||◌, ◌&&◌, ◌==◌, ◌<◌, sym, refl, ap, ap₂, subst, ℕ, Bool, true, false, List, [], ◌∷◌, map, length, slice_get, Option, None, Some, All, inl, inr, arith}
use Rattle.std.specs.Prelude.{IfSome, ◌↔◌}
use Rattle.std.specs.List.{slice_index_or}
use Rattle.std.specs.Option.{option_map}
use Rattle.std.proofs.lemmas.Bool.{eqb-true, or_cases}
use Rattle.std.proofs.lemmas.Option.{slice_get-map, slice_get-get_or}
use Rattle.std.proofs.lemmas.List.{get_or-map}
use Rattle.std.proofs.lemmas.List.Elements.{All-nil, All-cons, All-head, All-tail}
use Rattle.dd_concept.specs.declared.concept.Concept.{Concept}
use Rattle.dd_concept.specs.declared.concept.Concept.TheVariants.{Top, HasSome}
use Rattle.dd_concept.specs.declared.concept.Concept.TheViews.{outs-HasSome}
use Rattle.dd_concept.specs.Closed.{HasSides, HasTargets, IsClosedFor}
use Rattle.dd_concept.specs.Normal.{nnf_not_of}
use Rattle.dd_concept.specs.Same as same
use Rattle.dd_concept.specs.Saturated.{IsSaturated, IsSat, clashes}
use Rattle.dd_concept.specs.Steps.{IsComplete}
use Rattle.dd_concept.specs.Successor as following
use Rattle.dd_set.specs.Words.{has, IsPacked}
use Rattle.dd_rules.specs.declared.clash.Clash.{Clash}
use Rattle.dd_rules.specs.declared.props.Props.{Props}
use Rattle.dd_rules.specs.declared.shape.Shape.{Shape}
use Rattle.dd_rules.specs.declared.shape.Shape.TheVariants as shape
use Rattle.dd_rules.specs.declared.shape.Step.{Step}
use Rattle.dd_rules.specs.declared.tables.AxiomNumbers.{AxiomNumbers}
use Rattle.dd_rules.specs.Compiled.{AreProps, Closure, IsProp, concept_at, propagation_of, props_of, rules_in}
use Rattle.dd_rules.specs.Forced.{is_clash}
use Rattle.dd_rules.specs.Labels.{IsClashOf, IsStepOf, seen}
use Rattle.dd_rules.specs.Least.{IsLeastSaturated}
use Rattle.dd_rules.specs.Numbers.{Rules, IsSuccessor, PropNumbers, any_at, axiom_numbers, calls_for, concepts_at, has_clash, is_all, is_complete, is_saturated, joined_of, place_of, prop_numbers, rules_of, shape_form, shape_of}
use Rattle.dd_rules.specs.Tabled.{IsTabled}
use Rattle.dd_rules.specs.Tables.{Numbered, prop_with, tabled_rules}
use Rattle.dd_rules.proofs.ClashLifts.{clash-seen}
use Rattle.dd_rules.proofs.Clashing.{clash-told, has_clash-shapes}
use Rattle.dd_rules.proofs.LeastLifts.{least-lifts}
use Rattle.dd_rules.proofs.Lifting.{has_clash-same, is_complete-decides, is_saturated-decides, steps-lift, successor-lifts}
use Rattle.dd_rules.proofs.Numbered.{place-get, has-get}

abbrev rules_by : List Shape → List AxiomNumbers → List PropNumbers → Rules
rules_by shapes axioms props = record { shapes = shapes; axioms = axioms; props = props }

abbrev prop_by : ℕ → ℕ → List ℕ → Option (List (Option ℕ)) → PropNumbers
prop_by onto not_onto into joined = record { onto = onto; not_onto = not_onto; into = into; joined = joined }

-- the concept at a number of the closure
at-number : (cs : List Concept) (n : ℕ) → n < length cs → slice_get cs n ≡ Some (concept_at cs n)
at-number cs n low = slice_get-get_or cs n Top low

has-number : (cs : List Concept) (n : ℕ) → n < length cs → same.has cs (concept_at cs n) ≡ true
has-number cs n low = has-get cs n (concept_at cs n) (at-number cs n low)

module _ (closure : Closure) (t : Numbered) (tabled : IsTabled closure t) where
  abbrev cs : List Concept
  cs = closure.concepts

  place : (n : ℕ) → n < length cs → place_of cs (concept_at cs n) ≡ n
  place n low = place-get cs n (concept_at cs n) tabled.distinct (at-number cs n low)

  places : (ns : List ℕ) → All (λ n. n < length cs) ns → map (place_of cs) (map (concept_at cs) ns) ≡ ns
  places [] h = refl
  places (n ∷ ns) h = ap₂ (λ a b. a ∷ b) (place n (All-head (λ m. m < length cs) n ns h)) (places ns (All-tail (λ m. m < length cs) n ns h))

  joined-number : (n : ℕ) → n < length cs → slice_index_or t.joined n None ≡ joined_of cs (concept_at cs n)
  joined-number n low = ap (λ (l : List (Option (List (Option ℕ)))). slice_index_or l n None) tabled.joined ∙ get_or-map (joined_of cs) cs n Top None low

  prop-same : (p : ℕ × ℕ × List ℕ) → IsProp cs p → prop_with t.joined p ≡ prop_numbers cs (propagation_of cs p)
  prop-same p h =
      ap (λ n. prop_by n p.1 p.2 (slice_index_or t.joined p.0 None)) (sym (place p.0 h.onto))
      ∙ ap (λ n. prop_by (place_of cs (concept_at cs p.0)) n p.2 (slice_index_or t.joined p.0 None)) (sym (place p.1 h.not_onto) ∙ ap (place_of cs) h.complement)
      ∙ ap₂ (λ ns j. prop_by (place_of cs (concept_at cs p.0)) (place_of cs (nnf_not_of (concept_at cs p.0))) ns j) (sym (places p.2 h.into)) (joined-number p.0 h.onto)

  props-same : (ps : List (ℕ × ℕ × List ℕ)) → All (IsProp cs) ps → map (prop_with t.joined) ps ≡ map (prop_numbers cs) (map (propagation_of cs) ps)
  props-same [] h = refl
  props-same (p ∷ ps) h = ap₂ (λ a b. a ∷ b) (prop-same p (All-head (IsProp cs) p ps h)) (props-same ps (All-tail (IsProp cs) p ps h))

  -- the rules by the tables are those of the closure
  pub rules-same : (props : Props) → AreProps closure props → tabled_rules t props.list ≡ rules_in closure props
  rules-same props h =
      ap (λ s. rules_by s t.axioms (map (prop_with t.joined) props.list)) tabled.shapes
      ∙ ap (λ a. rules_by (map (shape_of cs) cs) a (map (prop_with t.joined) props.list)) tabled.axioms
      ∙ ap (rules_by (map (shape_of cs) cs) (map (axiom_numbers cs) closure.axioms)) (props-same props.list h)

  targets : (ps : List (ℕ × ℕ × List ℕ)) → All (IsProp cs) ps → All (HasTargets cs) (map (propagation_of cs) ps)
  targets [] h = All-nil (HasTargets cs)
  targets (p ∷ ps) h = All-cons (HasTargets cs) (propagation_of cs p) (map (propagation_of cs) ps) (one p (All-head (IsProp cs) p ps h)) (targets ps (All-tail (IsProp cs) p ps h))
    where
      into : (ns : List ℕ) → All (λ n. n < length cs) ns → All (λ c. same.has cs c ≡ true) (map (concept_at cs) ns)
      into [] h = All-nil (λ c. same.has cs c ≡ true)
      into (n ∷ ns) h = All-cons (λ c. same.has cs c ≡ true) (concept_at cs n) (map (concept_at cs) ns) (has-number cs n (All-head (λ m. m < length cs) n ns h)) (into ns (All-tail (λ m. m < length cs) n ns h))

      one : (p : ℕ × ℕ × List ℕ) → IsProp cs p → HasTargets cs (propagation_of cs p)
      one p k = record {
        onto = has-number cs p.0 k.onto;
        not_onto = subst (λ c. same.has cs c ≡ true) k.complement (has-number cs p.1 k.not_onto);
        into = into p.2 k.into;
      }

  pub closed-for : (props : Props) → AreProps closure props → IsClosedFor closure.axioms (props_of cs props) cs
  closed-for props h = record { parts = tabled.closed.parts; sides = tabled.closed.sides; targets = targets props.list h }

  -- a test of shapes and axioms alone
  pub saturated-same : (props : Props) (p : ℕ → Bool) → is_saturated (tabled_rules t []) p ≡ is_saturated (rules_in closure props) p
  saturated-same props p = ap (λ s. is_saturated (rules_by s t.axioms []) p) tabled.shapes ∙ ap (λ a. is_saturated (rules_by (map (shape_of cs) cs) a []) p) tabled.axioms

  pub saturated-seen : (o : Bool) (words : List ℕ) → is_saturated (tabled_rules t []) (has words) ≡ o → (IsSaturated closure.axioms (seen closure words) ↔ (o ≡ true))
  saturated-seen o words e =
      let decides = is_saturated-decides cs closure.axioms [] tabled.distinct tabled.closed (has words) in
      let here : is_saturated (rules_of cs closure.axioms []) (has words) ≡ o =
      sym (ap (λ s. is_saturated (rules_by s t.axioms []) (has words)) tabled.shapes ∙ ap (λ a. is_saturated (rules_by (map (shape_of cs) cs) a []) (has words)) tabled.axioms) ∙ e in
      (λ s. sym here ∙ decides.1 s, λ k. decides.0 (here ∙ k))

  pub least-same : (props : Props) (p q : ℕ → Bool) → IsLeastSaturated (tabled_rules t []) p q → IsLeastSaturated (rules_in closure props) p q
  least-same props p q h = record {
    above = h.above;
    saturated = sym (saturated-same props q) ∙ h.saturated;
    least = λ other up sat. h.least other up (saturated-same props other ∙ sat);
  }

  -- a number more in a label of the closure
  pub added-seen : (old new : List ℕ) (n : ℕ) → IsPacked (length cs) old → n < length cs → IsLeastSaturated (tabled_rules t []) (λ k. (k == n) || has old k) (has new)
      → IsSat closure.axioms (concepts_at cs (λ k. (k == n) || has old k)) (seen closure new)
  added-seen old new n packed low h = least-lifts cs closure.axioms [] tabled.distinct tabled.closed (λ k. (k == n) || has old k) (has new)
      (λ k there. (
        concept_at cs k,
        at-number cs k (elim (or_cases (k == n) (has old k) there) [
          | inl here ↦ omega (arith, eqb-true k n here)
          | inr had ↦ packed.within k had
        ]),
      ))
      (subst (λ s. IsLeastSaturated (rules_by s (map (axiom_numbers cs) closure.axioms) []) (λ k. (k == n) || has old k) (has new)) tabled.shapes
      (subst (λ a. IsLeastSaturated (rules_by t.shapes a []) (λ k. (k == n) || has old k) (has new)) tabled.axioms h))

  pub saturated-tabled : (p : ℕ → Bool) → is_saturated (rules_of cs closure.axioms []) p ≡ true → is_saturated (tabled_rules t []) p ≡ true
  saturated-tabled p h = ap (λ s. is_saturated (rules_by s t.axioms []) p) tabled.shapes ∙ ap (λ a. is_saturated (rules_by (map (shape_of cs) cs) a []) p) tabled.axioms ∙ h

  pub least-seen : (old new : List ℕ) → IsPacked (length cs) old → IsLeastSaturated (tabled_rules t []) (has old) (has new) → IsSat closure.axioms (seen closure old) (seen closure new)
  least-seen old new packed h = least-lifts cs closure.axioms [] tabled.distinct tabled.closed (has old) (has new)
      (λ n there. (concept_at cs n, at-number cs n (packed.within n there)))
      (subst (λ s. IsLeastSaturated (rules_by s (map (axiom_numbers cs) closure.axioms) []) (has old) (has new)) tabled.shapes
      (subst (λ a. IsLeastSaturated (rules_by t.shapes a []) (has old) (has new)) tabled.axioms h))

  -- a step by numbers is one of concepts
  pub step-seen : (props : Props) (words : List ℕ) (o : Option Step) → AreProps closure props → IfSome o (λ s. calls_for (rules_in closure props) (has words) s ≡ true)
      → IfSome o (IsStepOf closure props (seen closure words))
  step-seen props words None h k = k
  step-seen props words (Some s) h k =
      let lifted = steps-lift cs closure.axioms (props_of cs props) tabled.distinct (closed-for props h) (has words) s k in
      record { choice = lifted.choice; calls = lifted.calls; adds = lifted.adds; inside = lifted.inside }

  -- ---- completeness

  pub complete-seen : (props : Props) (words : List ℕ) (o : Option Step) → AreProps closure props → ((o ≡ None) ↔ (is_complete (rules_in closure props) (has words) ≡ true))
      → ((o ≡ None) ↔ IsComplete closure.axioms (props_of cs props) (seen closure words))
  complete-seen props words o h k =
      let decides = is_complete-decides cs closure.axioms (props_of cs props) tabled.distinct (closed-for props h) (has words) in
      (λ e. decides.0 (k.0 e), λ s. k.1 (decides.1 s))

  pub saturated-none : (words : List ℕ) (o : Option Step) → ((o ≡ None) ↔ (is_saturated (tabled_rules t []) (has words) ≡ true)) → ((o ≡ None) ↔ IsSaturated closure.axioms (seen closure words))
  saturated-none words o k =
      let sides = saturated-seen (is_saturated (tabled_rules t []) (has words)) words refl in
      (λ e. sides.1 (k.0 e), λ s. k.1 (sides.0 s))

  -- ---- clashes

  plain : IsClosedFor [] [] cs
  plain = record { parts = tabled.closed.parts; sides = All-nil (HasSides cs); targets = All-nil (HasTargets cs) }

  pub clash-concepts : (words : List ℕ) (o : Option Clash) → IfSome o (λ c. is_clash (tabled_rules t []) (has words) c ≡ true) → IfSome o (IsClashOf (seen closure words))
  clash-concepts words o h = clash-seen cs tabled.distinct plain (has words) o (clash-told (tabled_rules t []) (rules_of cs [] []) (has words) o tabled.shapes h)

  pub clash-clear : (words : List ℕ) (o : Option Clash) → ((o ≡ None) ↔ (has_clash (tabled_rules t []) (has words) ≡ false)) → ((o ≡ None) ↔ (clashes (seen closure words) ≡ false))
  clash-clear words o k =
      let one : has_clash (tabled_rules t []) (has words) ≡ clashes (seen closure words) =
      has_clash-shapes (tabled_rules t []) (rules_of cs [] []) (has words) tabled.shapes ∙ has_clash-same cs [] [] tabled.distinct plain (has words) in
      (λ e. sym one ∙ k.0 e, λ e. k.1 (one ∙ e))

  pub clash-numbers : (props : Props) (words : List ℕ) (o : Option Clash) → ((o ≡ None) ↔ (has_clash (tabled_rules t []) (has words) ≡ false))
      → ((o ≡ None) ↔ (has_clash (rules_in closure props) (has words) ≡ false))
  clash-numbers props words o k =
      let one = has_clash-shapes (tabled_rules t []) (rules_in closure props) (has words) tabled.shapes in
      (λ e. sym one ∙ k.0 e, λ e. k.1 (one ∙ e))

  pub clash-some : (props : Props) (words : List ℕ) (o : Option Clash) → IfSome o (λ c. is_clash (tabled_rules t []) (has words) c ≡ true) → IfSome o (λ c. is_clash (rules_in closure props) (has words) c ≡ true)
  clash-some props words o h = clash-told (tabled_rules t []) (rules_in closure props) (has words) o tabled.shapes h

  -- ---- Successor labels

  pub successor-numbers : (props : Props) (words other : List ℕ) (role c : ℕ) → IsSuccessor (tabled_rules t []) (has words) role c (has other) → IsSuccessor (rules_in closure props) (has words) role c (has other)
  successor-numbers props words other role c h k = h k ∙ ap (λ s. (k == c) || any_at (λ n x. has words n && is_all role k x) s) tabled.shapes

  pub successor-seen : (words other : List ℕ) (at : ℕ) → ((role c : ℕ) → slice_get t.shapes at ≡ Some (shape.HasSome role c) → IsSuccessor (tabled_rules t []) (has words) role c (has other))
      → (role : ℕ) (c : Concept) → slice_get cs at ≡ Some (HasSome role c) → following.IsSuccessor (seen closure words) role c (seen closure other)
  successor-seen words other at h role c e =
      let shaped : slice_get t.shapes at ≡ Some (shape.HasSome role (place_of cs c)) =
      ap (λ s. slice_get s at) tabled.shapes ∙ slice_get-map (shape_of cs) cs at ∙ ap (option_map (shape_of cs)) e ∙ ap (λ z. Some (shape_form cs z)) (outs-HasSome role c) in
      let inside = tabled.closed.parts.somes role c (has-get cs at (HasSome role c) e) in
      successor-lifts cs closure.axioms [] tabled.distinct tabled.closed (has words) role c inside (has other)
      (λ k. h role (place_of cs c) shaped k ∙ ap (λ s. (k == place_of cs c) || any_at (λ n x. has words n && is_all role k x) s) tabled.shapes)
