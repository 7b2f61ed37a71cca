-- What an element has that has the label of a key, and how the label is written by the rules that the key names.
use Rattle.std.proofs.Common.{◌≡◌, ◌∙◌, ℕ, true, false, List, [], ◌∷◌, ◌++◌, map, Option, None, Some, ap, ap₂, refl, sym}
use Rattle.std.specs.List.{slice_get, flat_map}
use Rattle.std.specs.Option.{option_map, option_to_list}
use Rattle.std.proofs.lemmas.Bool.{not-true}
use Rattle.std.proofs.lemmas.Option.{same_Some}
use Rattle.dd_concept.specs.declared.concept.Concept.{Concept}
use Rattle.dd_concept.specs.Normal.{nnf_of, nnf_not_of}
use Rattle.dd_concept.proofs.Sets.{has-get_item}
use Rattle.dd_interp.specs.declared.interp.Interp.{Interp}
use Rattle.dd_interp.specs.Labels.{HasLabel}
use Rattle.dd_interp.specs.Meaning.{meaning}
use Rattle.dd_interp.proofs.NormalForms.{meaning-nnf_of, meaning-nnf_not_of}
use Rattle.dd_peer.specs.declared.version.Pinned.{Pinned}
use Rattle.dd_peer.specs.declared.version.Rule.{Rule}
use Rattle.dd_task.specs.Goals.{no_source_at, source_of, no_source_of, asked_label}
use Rattle.dd_task.specs.Lines.{more_rules, rules_at, sources_label}
use Rattle.dd_task.specs.Rules.{into_rules, onto_rules}
use Rattle.dd_task.proofs.Places.{at-append, at-behind, at-flat_map}

module _ (p : Pinned) (h i o : ℕ) (set : List ℕ) (n : Interp) (z : ℕ) (has_label : HasLabel n z (asked_label p h i o set)) where
  -- it is in the source of the onto rule
  pub in_source : (r : Rule) → slice_get (onto_rules p h i) o ≡ Some r → meaning n r.source z ≡ true
  in_source r e =
      let first : slice_get (source_of p h i o) 0 ≡ Some (nnf_of r.source) =
      ap (λ x. slice_get (option_to_list (option_map (λ (s : Rule). nnf_of s.source) x)) 0) e in
      sym (meaning-nnf_of n r.source z)
      ∙ has_label (nnf_of r.source) (has-get_item (asked_label p h i o set) 0 (nnf_of r.source)
      (at-append Concept (source_of p h i o) (flat_map (no_source_of p h i) set) 0 (nnf_of r.source) first))

  -- and in none of the sources of the set's rules
  pub in_no_source : (j k : ℕ) (r : Rule) → slice_get set j ≡ Some k → slice_get (into_rules p h i) k ≡ Some r → meaning n r.source z ≡ false
  in_no_source j k r there e =
      let first : slice_get (no_source_of p h i k) 0 ≡ Some (nnf_not_of r.source) =
      ap (λ x. slice_get (option_to_list (option_map (λ (s : Rule). nnf_not_of s.source) x)) 0) e in
      let place = at-flat_map ℕ Concept (no_source_of p h i) set j 0 k (nnf_not_of r.source) there first in
      let lacks : meaning n (nnf_not_of r.source) z ≡ true =
      has_label (nnf_not_of r.source) (has-get_item (asked_label p h i o set) (_) (nnf_not_of r.source)
      (at-behind Concept (source_of p h i o) (flat_map (no_source_of p h i) set) place.0 ∙ place.1)) in
      not-true (meaning n r.source z) (sym (meaning-nnf_not_of n r.source z) ∙ lacks)

-- ---- the label by the rules

-- both parts are there where the whole is
pub more-parts : (a : Option Rule) (as' : Option (List Rule)) (rules : List Rule) → more_rules a as' ≡ Some rules
    → (r : Rule) × (rs : List Rule) × (a ≡ Some r) × (as' ≡ Some rs) × (r ∷ rs ≡ rules)
more-parts (Some r) (Some rs) rules e = (r, rs, refl, refl, same_Some (r ∷ rs) rules e)
more-parts (Some r) None rules e = cc
more-parts None _ rules e = cc

pub no_sources-are : (all : List Rule) (set : List ℕ) (rules : List Rule) → rules_at all set ≡ Some rules
    → flat_map (no_source_at all) set ≡ map (λ (r : Rule). nnf_not_of r.source) rules
no_sources-are all [] rules e = ap (map (λ (r : Rule). nnf_not_of r.source)) (same_Some [] rules e)
no_sources-are all (k ∷ ks) rules e =
    let parts = more-parts (slice_get all k) (rules_at all ks) rules e in
    let first : no_source_at all k ≡ nnf_not_of parts.0.source ∷ [] =
    ap (λ x. option_to_list (option_map (λ (s : Rule). nnf_not_of s.source) x)) parts.2 in
    ap₂ (λ (a b : List Concept). a ++ b) first (no_sources-are all ks parts.1 parts.3) ∙ ap (map (λ (r : Rule). nnf_not_of r.source)) parts.4

-- where the rules are there, the label of the key is that of a bridge by these rules
pub asked_label-is : (p : Pinned) (h i o : ℕ) (set : List ℕ) (onto : Rule) (into : List Rule) → slice_get (onto_rules p h i) o ≡ Some onto
    → rules_at (into_rules p h i) set ≡ Some into → asked_label p h i o set ≡ sources_label onto into
asked_label-is p h i o set onto into at_o at_set =
    ap₂ (λ (a b : List Concept). a ++ b) (ap (λ x. option_to_list (option_map (λ (s : Rule). nnf_of s.source) x)) at_o)
    (no_sources-are (into_rules p h i) set into at_set)
