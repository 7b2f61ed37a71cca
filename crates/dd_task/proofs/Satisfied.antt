-- What satisfies the propagations of a view with their targets in normal form satisfies each as it stands.
use Rattle.std.proofs.Common.{◌≡◌, ◌∙◌, ◌⊎◌, ℕ, true, false, List, [], ◌∷◌, ◌++◌, Option, None, Some, ap, refl, sym, inl, inr, All}
use Rattle.std.specs.List.{slice_get, list_any, flat_map}
use Rattle.std.specs.Option.{option_map, option_to_list, option_map_or}
use Rattle.std.proofs.lemmas.Bool.{false≢true, or_cases, or_left, or_right}
use Rattle.dd_concept.specs.declared.concept.Concept.{Concept}
use Rattle.dd_concept.specs.Normal.{nnf_of}
use Rattle.dd_concept.specs.Propagation.{Propagation}
use Rattle.dd_interp.specs.declared.interp.Interp.{Interp}
use Rattle.dd_interp.specs.Meaning.{meaning}
use Rattle.dd_interp.specs.Propagations.{SatisfiesPropagation, SatisfiesPropagations}
use Rattle.dd_interp.proofs.NormalForms.{meaning-nnf_of}
use Rattle.dd_peer.specs.declared.version.Pinned.{Pinned}
use Rattle.dd_peer.specs.declared.version.Rule.{Rule}
use Rattle.dd_task.specs.declared.line.Prop.{Prop}
use Rattle.dd_task.specs.Rules.{into_rules, onto_rules}
use Rattle.dd_task.specs.Targets.{in_target, in_into, SatisfiesProp, into_target_of, targets_by, propagation_of, propagations_of}
use Rattle.dd_task.proofs.Places.{All-at, All-from, at-flat_map}

module _ (p : Pinned) (i : ℕ) (m : Interp) where
  -- an element that has the target of an into rule in normal form has it
  one_target : (h k x : ℕ) (o : Option Rule) → list_any (λ c. meaning m c x) (option_to_list (option_map (λ (r : Rule). nnf_of r.target) o)) ≡ true
      → option_map_or (in_target m x) o false ≡ true
  one_target h k x None e = absurd (false≢true e)
  one_target h k x (Some r) e = elim (or_cases (meaning m (nnf_of r.target) x) false e) [
    | inl t ↦ sym (meaning-nnf_of m r.target x) ∙ t
    | inr f ↦ absurd (false≢true f)
  ]

  any-append : (x : ℕ) (as' bs : List Concept) → list_any (λ c. meaning m c x) (as' ++ bs) ≡ true
      → (list_any (λ c. meaning m c x) as' ≡ true) ⊎ (list_any (λ c. meaning m c x) bs ≡ true)
  any-append x [] bs e = inr e
  any-append x (a ∷ as') bs e = elim (or_cases (meaning m a x) (list_any (λ c. meaning m c x) (as' ++ bs)) e) [
    | inl t ↦ inl (or_left (meaning m a x) (list_any (λ c. meaning m c x) as') t)
    | inr t ↦ elim (any-append x as' bs t) [
      | inl u ↦ inl (or_right (meaning m a x) (list_any (λ c. meaning m c x) as') u)
      | inr u ↦ inr u
    ]
  ]

  some_target : (h x : ℕ) (set : List ℕ) → list_any (λ c. meaning m c x) (flat_map (into_target_of p h i) set) ≡ true
      → list_any (in_into p h i m x) set ≡ true
  some_target h x [] e = absurd (false≢true e)
  some_target h x (k ∷ ks) e = elim (any-append x (into_target_of p h i k) (flat_map (into_target_of p h i) ks) e) [
    | inl t ↦ or_left (in_into p h i m x k) (list_any (in_into p h i m x) ks) (one_target h k x (slice_get (into_rules p h i) k) t)
    | inr t ↦ or_right (in_into p h i m x k) (list_any (in_into p h i m x) ks) (some_target h x ks t)
  ]

  target_there : (x : ℕ) (o : Option Rule) → option_map_or (in_target m x) o false ≡ true → (r : Rule) × (o ≡ Some r) × (meaning m r.target x ≡ true)
  target_there x None e = absurd (false≢true e)
  target_there x (Some r) e = (r, refl, e)

  satisfied-at : (view : List Prop) → SatisfiesPropagations m (propagations_of p i view) → (n : ℕ) (prop : Prop) → slice_get view n ≡ Some prop
      → SatisfiesProp p i m prop
  satisfied-at view all n prop at x lt e =
      let there = target_there x (slice_get (onto_rules p prop.from i) prop.onto) e in
      let first : slice_get (propagation_of p i prop) 0 ≡ Some (targets_by p i prop there.0) =
      ap (λ o. slice_get (option_to_list (option_map (targets_by p i prop) o)) 0) there.1 in
      let place = at-flat_map Prop Propagation (propagation_of p i) view n 0 prop (targets_by p i prop there.0) at first in
      let one = All-at Propagation (SatisfiesPropagation m) (propagations_of p i view) place.0 (targets_by p i prop there.0) all place.1 in
      some_target prop.from x prop.into_set (one x lt (meaning-nnf_of m there.0.target x ∙ there.2))

  pub satisfied-props : (view : List Prop) → SatisfiesPropagations m (propagations_of p i view) → All (SatisfiesProp p i m) view
  satisfied-props view all = All-from Prop (SatisfiesProp p i m) view (satisfied-at view all)
