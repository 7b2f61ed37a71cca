-- What the goal of a key asks for, and what the propagations into its peer add to a label, is in the closure of the peer.
use Rattle.std.proofs.Common.{◌≡◌, ◌∙◌, ◌==◌, ◌+◌, ℕ, zero, suc, true, List, [], ◌∷◌, ◌++◌, map, length, Option, None, Some, ap, refl, subst, inl, inr}
use Rattle.std.specs.List.{All, slice_get, flat_map}
use Rattle.std.specs.Option.{option_map, option_map_or, option_to_list}
use Rattle.std.proofs.lemmas.Bool.{and_from, cond-true, eq-eqb}
use Rattle.std.proofs.lemmas.Option.{same_Some, slice_get-map}
use Rattle.dd_concept.specs.declared.concept.Concept.{Concept}
use Rattle.dd_concept.specs.Closed.{HasTargets, IsClosedFor}
use Rattle.dd_concept.specs.Normal.{nnf_of, nnf_not_of}
use Rattle.dd_concept.specs.Propagation.{Propagation}
use Rattle.dd_concept.specs.Same.{has, is_within}
use Rattle.dd_concept.proofs.NormalForms.{nnf_not_of-nnf_of}
use Rattle.dd_peer.specs.declared.version.PeerVersion.{PeerVersion}
use Rattle.dd_peer.specs.declared.version.Rule.{Rule}
use Rattle.dd_peer.specs.Relevant.{is_in}
use Rattle.dd_peer.specs.Rules.{rules_from}
use Rattle.dd_task.specs.declared.job.Job.{Job}
use Rattle.dd_task.specs.declared.job.Key.{Key}
use Rattle.dd_task.specs.declared.job.Key.TheVariants.{Root, Asked}
use Rattle.dd_task.specs.declared.line.Prop.{Prop}
use Rattle.dd_task.specs.Closure.{IsClosedOver, asked_by, asked_first, both_targets, extra_for, kept_targets}
use Rattle.dd_task.specs.Goals.{asked_label, goal_for, no_source_of, peer_of, root_label, source_of}
use Rattle.dd_task.specs.Rules.{all_into, all_onto, axioms_of, into_rules, onto_rules}
use Rattle.dd_task.specs.Targets.{into_target_of, propagation_of, propagations_of, targets_by}
use Rattle.dd_task.proofs.Places.{All-at, All-from, among-at, at-append, at-append_cases, at-behind, at-flat_map, before_filter, flat_map-at}
use Rattle.dd_board.specs.Fit.{IsFitKey}

-- the one item that a rule gives, where there is one
one-given : (f : Rule → Concept) (o : Option Rule) (q : ℕ) (c : Concept) → slice_get (option_to_list (option_map f o)) q ≡ Some c
    → (r : Rule) × (o ≡ Some r) × (f r ≡ c)
one-given f None q c e = cc
one-given f (Some r) zero c e = (r, refl, same_Some (f r) c e)
one-given f (Some r) (suc q) c e = cc

-- a rule of a pair is one of all that the peer keeps
rule-kept : (list : PeerVersion → List Rule) (o : Option PeerVersion) (h k : ℕ) (r : Rule)
    → slice_get (option_map_or (λ v. rules_from (list v) h) o []) k ≡ Some r → (q : ℕ) × (slice_get (option_map_or list o []) q ≡ Some r)
rule-kept list None h k r e = cc
rule-kept list (Some v) h k r e = before_filter Rule (λ (s : Rule). s.from == h) (list v) k r e

-- each place of the label has a concept of the list
within-places : (label other : List Concept) → ((q : ℕ) (c : Concept) → slice_get label q ≡ Some c → has other c ≡ true) → is_within label other ≡ true
within-places [] other h = refl
within-places (c ∷ cs) other h = and_from (has other c) (is_within cs other) (h 0 c refl) (within-places cs other (λ q d e. h (suc q) d e))

module _ (job : Job) (i : ℕ) (other : List Concept) (closed : IsClosedOver (axioms_of job.pinned i) (extra_for job i) other) where
  abbrev kept : List Concept
  kept = kept_targets job.pinned i

  abbrev asked : List Concept
  asked = flat_map (asked_by job.pinned i) job.relevant

  abbrev first : List Concept
  first = asked_first job.query i

  extra-at : (q : ℕ) (c : Concept) → slice_get (extra_for job i) q ≡ Some c → has other c ≡ true
  extra-at q c e = All-at Concept (λ d. has other d ≡ true) (extra_for job i) q c closed.extras e

  -- ---- the targets of the rules that the peer keeps

  abbrev rules : List Rule
  rules = all_into job.pinned i ++ all_onto job.pinned i

  target-at : (q j : ℕ) (r : Rule) (c : Concept) → slice_get rules q ≡ Some r → slice_get (both_targets r) j ≡ Some c → has other c ≡ true
  target-at q j r c e f =
      let at = at-flat_map Rule Concept both_targets rules q j r c e f in
      extra-at at.0 c (at-append Concept kept (asked ++ first) at.0 c at.1)

  onto-place : (h k : ℕ) (r : Rule) → slice_get (onto_rules job.pinned h i) k ≡ Some r → (q : ℕ) × (slice_get rules q ≡ Some r)
  onto-place h k r e =
      let at = rule-kept (λ v. v.onto) (slice_get job.pinned.peers i) h k r e in
      (length (all_into job.pinned i) + at.0, at-behind Rule (all_into job.pinned i) (all_onto job.pinned i) at.0 ∙ at.1)

  into-place : (h k : ℕ) (r : Rule) → slice_get (into_rules job.pinned h i) k ≡ Some r → (q : ℕ) × (slice_get rules q ≡ Some r)
  into-place h k r e =
      let at = rule-kept (λ v. v.into) (slice_get job.pinned.peers i) h k r e in
      (at.0, at-append Rule (all_into job.pinned i) (all_onto job.pinned i) at.0 r at.1)

  into-inside : (h : ℕ) (set : List ℕ) → All (λ c. has other c ≡ true) (flat_map (into_target_of job.pinned h i) set)
  into-inside h set = All-from Concept (λ c. has other c ≡ true) (flat_map (into_target_of job.pinned h i) set) (λ q c e.
      let found = flat_map-at ℕ Concept (into_target_of job.pinned h i) set q c e in
      let one = one-given (λ r. nnf_of r.target) (slice_get (into_rules job.pinned h i) found.1) found.2 c found.4 in
      let at = into-place h found.1 one.0 one.1 in
      subst (λ d. has other d ≡ true) one.2 (target-at at.0 0 one.0 (nnf_of one.0.target) at.1 refl))

  targets-inside : (prop : Prop) (r : Rule) → slice_get (onto_rules job.pinned prop.from i) prop.onto ≡ Some r → HasTargets other (targets_by job.pinned i prop r)
  targets-inside prop r e =
      let at = onto-place prop.from prop.onto r e in
      record {
        onto = target-at at.0 0 r (nnf_of r.target) at.1 refl;
        not_onto = ap (has other) (nnf_not_of-nnf_of r.target) ∙ target-at at.0 1 r (nnf_not_of r.target) at.1 refl;
        into = into-inside prop.from prop.into_set;
      }

  one-inside : (prop : Prop) (o : Option Rule) → slice_get (onto_rules job.pinned prop.from i) prop.onto ≡ o → (q : ℕ) (t : Propagation)
      → slice_get (option_to_list (option_map (targets_by job.pinned i prop) o)) q ≡ Some t → HasTargets other t
  one-inside prop None e q t f = cc
  one-inside prop (Some r) e zero t f = subst (HasTargets other) (same_Some (targets_by job.pinned i prop r) t f) (targets-inside prop r e)
  one-inside prop (Some r) e (suc q) t f = cc

  -- what a view adds to a label
  pub closed-for : (view : List Prop) → IsClosedFor (axioms_of job.pinned i) (propagations_of job.pinned i view) other
  closed-for view = record {
    parts = closed.parts;
    sides = closed.sides;
    targets = All-from Propagation (HasTargets other) (propagations_of job.pinned i view) (λ q t e.
        let found = flat_map-at Prop Propagation (propagation_of job.pinned i) view q t e in
        one-inside found.1 (slice_get (onto_rules job.pinned found.1.from i) found.1.onto) refl found.2 t found.4);
  }

  -- ---- what is asked of the peer

  -- by the query, at its peer
  root-inside : job.query.peer ≡ i → is_within (root_label job.query) other ≡ true
  root-inside at = within-places (root_label job.query) other (λ q c e.
      let is : first ≡ root_label job.query = cond-true (job.query.peer == i) (root_label job.query) [] (eq-eqb job.query.peer i at) in
      extra-at (length kept + (length asked + q)) c
      (at-behind Concept kept (asked ++ first) (length asked + q) ∙ at-behind Concept asked first q ∙ ap (λ l. slice_get l q) is ∙ e))

  -- by the rules that a relevant peer keeps from it
  module _ (keeper : ℕ) (relevant : is_in job.relevant keeper ≡ true) where
    abbrev intos : List Concept
    intos = map (λ (r : Rule). nnf_not_of r.source) (into_rules job.pinned i keeper)

    abbrev ontos : List Concept
    ontos = map (λ (r : Rule). nnf_of r.source) (onto_rules job.pinned i keeper)

    asked-at : (q : ℕ) (c : Concept) → slice_get (asked_by job.pinned i keeper) q ≡ Some c → has other c ≡ true
    asked-at q c e =
        let place = among-at job.relevant keeper relevant in
        let at = at-flat_map ℕ Concept (asked_by job.pinned i) job.relevant place.0 q keeper c place.1 e in
        extra-at (length kept + at.0) c (at-behind Concept kept (asked ++ first) at.0 ∙ at-append Concept asked first at.0 c at.1)

    source-inside : (o q : ℕ) (c : Concept) → slice_get (source_of job.pinned i keeper o) q ≡ Some c → has other c ≡ true
    source-inside o q c e =
        let one = one-given (λ r. nnf_of r.source) (slice_get (onto_rules job.pinned i keeper) o) q c e in
        asked-at (length intos + o) c (at-behind Concept intos ontos o
        ∙ slice_get-map (λ (r : Rule). nnf_of r.source) (onto_rules job.pinned i keeper) o
        ∙ ap (option_map (λ (r : Rule). nnf_of r.source)) one.1 ∙ ap Some one.2)

    no-source-inside : (k q : ℕ) (c : Concept) → slice_get (no_source_of job.pinned i keeper k) q ≡ Some c → has other c ≡ true
    no-source-inside k q c e =
        let one = one-given (λ r. nnf_not_of r.source) (slice_get (into_rules job.pinned i keeper) k) q c e in
        asked-at k c (at-append Concept intos ontos k c (slice_get-map (λ (r : Rule). nnf_not_of r.source) (into_rules job.pinned i keeper) k
        ∙ ap (option_map (λ (r : Rule). nnf_not_of r.source)) one.1 ∙ ap Some one.2))

    asked-inside : (o : ℕ) (set : List ℕ) → is_within (asked_label job.pinned i keeper o set) other ≡ true
    asked-inside o set = within-places (asked_label job.pinned i keeper o set) other (λ q c e.
        elim (at-append_cases Concept (source_of job.pinned i keeper o) (flat_map (no_source_of job.pinned i keeper) set) q c e) [
          | inl h ↦ source-inside o q c h
          | inr h ↦
              let found = flat_map-at ℕ Concept (no_source_of job.pinned i keeper) set h.0 c h.2 in
              no-source-inside found.1 found.2 c found.4
        ])

-- the goal of a key is in the closure of its peer
pub goal-inside : (job : Job) (key : Key) → IsFitKey job key → (other : List Concept)
    → IsClosedOver (axioms_of job.pinned (peer_of job key)) (extra_for job (peer_of job key)) other → is_within (goal_for job key).label other ≡ true
goal-inside job Root fit other closed = root-inside job job.query.peer other closed refl
goal-inside job (Asked h i o set) fit other closed = asked-inside job h other closed i (fit h i o set refl).0 o set
