-- The propagations of a view by numbers are fit, and are those of the view.
use Rattle.std.proofs.Common.{◌≡◌, ◌∙◌, ◌<◌, ℕ, zero, suc, true, List, [], ◌∷◌, ◌++◌, length, map, All, Option, None, Some, ap, ap₂, refl, sym, subst, slice_get}
use Rattle.std.specs.List.{flat_map}
use Rattle.std.specs.Option.{option_map, option_to_list}
use Rattle.std.proofs.lemmas.List.{map-append}
use Rattle.std.proofs.lemmas.Option.{slice_get_within}
use Rattle.dd_concept.specs.declared.concept.Concept.{Concept}
use Rattle.dd_concept.specs.Normal.{nnf_of, nnf_not_of}
use Rattle.dd_concept.specs.Propagation.{Propagation}
use Rattle.dd_concept.specs.Same.{has}
use Rattle.dd_concept.proofs.NormalForms.{nnf_not_of-nnf_of}
use Rattle.dd_peer.specs.declared.version.Pinned.{Pinned}
use Rattle.dd_peer.specs.declared.version.Rule.{Rule}
use Rattle.dd_rules.specs.Compiled.{IsProp, concept_at}
use Rattle.dd_rules.specs.Compiled as compiled
use Rattle.dd_rules.specs.Numbers.{place_of}
use Rattle.dd_rules.proofs.Forming.{at}
use Rattle.dd_rules.proofs.Numbered.{get-place}
use Rattle.dd_task.specs.declared.line.Prop.{Prop}
use Rattle.dd_task.specs.Rules.{into_rules, onto_rules}
use Rattle.dd_task.specs.Targets.{into_target_of, targets_by, propagations_of}
use Rattle.dd_task.proofs.Places.{All-from, flat_map-at}
use Rattle.dd_run.specs.Numbers.{HaveTargets, into_number, numbers_by, prop_numbers}

place-low : (xs : List Concept) (c : Concept) → has xs c ≡ true → place_of xs c < length xs
place-low xs c h = slice_get_within xs (place_of xs c) c (get-place xs c h)

place-is : (xs : List Concept) (c : Concept) → has xs c ≡ true → concept_at xs (place_of xs c) ≡ c
place-is xs c h = at xs (place_of xs c) c (get-place xs c h)

module _ (concepts : List Concept) (p : Pinned) (i : ℕ) (targets : HaveTargets p i concepts) where
  -- ---- the numbers are numbers of concepts

  into-low : (h k : ℕ) (o : Option Rule) → slice_get (into_rules p h i) k ≡ o → (q n : ℕ)
      → slice_get (option_to_list (option_map (λ (r : Rule). place_of concepts (nnf_of r.target)) o)) q ≡ Some n → n < length concepts
  into-low h k None e q n f = cc
  into-low h k (Some r) e zero n f = subst (λ m. m < length concepts) (first (place_of concepts (nnf_of r.target)) n f) (place-low concepts (nnf_of r.target) (targets.into h k r e))
    where
      first : (a b : ℕ) → Some a ≡ Some b → a ≡ b
      first a b g = cc
  into-low h k (Some r) e (suc q) n f = cc

  all-low : (h : ℕ) (set : List ℕ) → All (λ n. n < length concepts) (flat_map (into_number concepts p h i) set)
  all-low h set = All-from ℕ (λ n. n < length concepts) (flat_map (into_number concepts p h i) set)
      (λ q n e. let found = flat_map-at ℕ ℕ (into_number concepts p h i) set q n e in
      into-low h found.1 (slice_get (into_rules p h i) found.1) refl found.2 n found.4)

  fit-by : (prop : Prop) (r : Rule) → slice_get (onto_rules p prop.from i) prop.onto ≡ Some r → IsProp concepts (numbers_by concepts p i prop r)
  fit-by prop r e =
      let has_it = targets.onto prop.from prop.onto r e in
      let has_not = targets.not_onto prop.from prop.onto r e in
      record {
        onto = place-low concepts (nnf_of r.target) has_it;
        not_onto = place-low concepts (nnf_not_of r.target) has_not;
        complement = place-is concepts (nnf_not_of r.target) has_not ∙ sym (ap nnf_not_of (place-is concepts (nnf_of r.target) has_it) ∙ nnf_not_of-nnf_of r.target);
        into = all-low prop.from prop.into_set;
      }

  fit-one : (prop : Prop) (o : Option Rule) → slice_get (onto_rules p prop.from i) prop.onto ≡ o → (q : ℕ) (t : ℕ × ℕ × List ℕ)
      → slice_get (option_to_list (option_map (numbers_by concepts p i prop) o)) q ≡ Some t → IsProp concepts t
  fit-one prop None e q t f = cc
  fit-one prop (Some r) e zero t f = subst (IsProp concepts) (first (numbers_by concepts p i prop r) t f) (fit-by prop r e)
    where
      first : (a b : ℕ × ℕ × List ℕ) → Some a ≡ Some b → a ≡ b
      first a b g = cc
  fit-one prop (Some r) e (suc q) t f = cc

  pub numbers-fit : (view : List Prop) → All (IsProp concepts) (flat_map (prop_numbers concepts p i) view)
  numbers-fit view = All-from (ℕ × ℕ × List ℕ) (IsProp concepts) (flat_map (prop_numbers concepts p i) view)
      (λ q t e. let found = flat_map-at Prop (ℕ × ℕ × List ℕ) (prop_numbers concepts p i) view q t e in
      fit-one found.1 (slice_get (onto_rules p found.1.from i) found.1.onto) refl found.2 t found.4)

  -- ---- and the concepts are those of the view

  into-concept : (h k : ℕ) (o : Option Rule) → slice_get (into_rules p h i) k ≡ o
      → map (concept_at concepts) (option_to_list (option_map (λ (r : Rule). place_of concepts (nnf_of r.target)) o))
      ≡ option_to_list (option_map (λ (r : Rule). nnf_of r.target) o)
  into-concept h k None e = refl
  into-concept h k (Some r) e = ap (λ c. c ∷ []) (place-is concepts (nnf_of r.target) (targets.into h k r e))

  into-concepts : (h : ℕ) (set : List ℕ) → map (concept_at concepts) (flat_map (into_number concepts p h i) set) ≡ flat_map (into_target_of p h i) set
  into-concepts h [] = refl
  into-concepts h (k ∷ ks) =
      map-append (concept_at concepts) (into_number concepts p h i k) (flat_map (into_number concepts p h i) ks)
      ∙ ap₂ (λ (a b : List Concept). a ++ b) (into-concept h k (slice_get (into_rules p h i) k) refl) (into-concepts h ks)

  both : (c d : Concept) (cs ds : List Concept) → c ≡ d → cs ≡ ds
      → (let a : Propagation = record { onto = c; into = cs } in a) ≡ (let b : Propagation = record { onto = d; into = ds } in b)
  both c d cs ds e f = ap₂ (λ (x : Concept) (ys : List Concept). (let a : Propagation = record { onto = x; into = ys } in a)) e f

  one-concept : (prop : Prop) (o : Option Rule) → slice_get (onto_rules p prop.from i) prop.onto ≡ o
      → map (compiled.propagation_of concepts) (option_to_list (option_map (numbers_by concepts p i prop) o)) ≡ option_to_list (option_map (targets_by p i prop) o)
  one-concept prop None e = refl
  one-concept prop (Some r) e = ap (λ (t : Propagation). t ∷ [])
      (both (concept_at concepts (place_of concepts (nnf_of r.target))) (nnf_of r.target)
      (map (concept_at concepts) (flat_map (into_number concepts p prop.from i) prop.into_set)) (flat_map (into_target_of p prop.from i) prop.into_set)
      (place-is concepts (nnf_of r.target) (targets.onto prop.from prop.onto r e)) (into-concepts prop.from prop.into_set))

  pub numbers-are : (view : List Prop) → map (compiled.propagation_of concepts) (flat_map (prop_numbers concepts p i) view) ≡ propagations_of p i view
  numbers-are [] = refl
  numbers-are (prop ∷ view) =
      map-append (compiled.propagation_of concepts) (prop_numbers concepts p i prop) (flat_map (prop_numbers concepts p i) view)
      ∙ ap₂ (λ (a b : List Propagation). a ++ b) (one-concept prop (slice_get (onto_rules p prop.from i) prop.onto) refl) (numbers-are view)
