-- The goal of a key is within the closure of its peer, where the peer that keeps its rules is relevant.
use Rattle.std.proofs.Common.{◌≡◌, ◌∙◌, ℕ, true, List, [], ◌++◌, map, Contains, Option, None, Some, ap, refl, sym, slice_get, inl, inr}
use Rattle.std.specs.List.{flat_map}
use Rattle.std.specs.Option.{option_map, option_to_list}
use Rattle.std.proofs.lemmas.Bool.{false≢true, or_cases, or_left, or_right}
use Rattle.std.proofs.lemmas.Option.{slice_get-map}
use Rattle.dd_concept.specs.declared.concept.Concept.{Concept}
use Rattle.dd_concept.specs.Normal.{nnf_of, nnf_not_of}
use Rattle.dd_concept.specs.Same.{has, is_within}
use Rattle.dd_concept.proofs.Sets.{has-append, has-cases, has-get_item, within-from}
use Rattle.dd_open.proofs.Items.{contains-place}
use Rattle.dd_peer.specs.declared.version.Rule.{Rule}
use Rattle.dd_rules.proofs.Closing.{closure-extra}
use Rattle.dd_task.specs.declared.job.Job.{Job}
use Rattle.dd_task.specs.declared.job.Key.{Key}
use Rattle.dd_task.specs.declared.job.Key.TheVariants.{Root, Asked}
use Rattle.dd_task.specs.Closure.{asked_by, asked_first, extra_for, kept_targets}
use Rattle.dd_task.specs.Goals.{asked_label, goal_for, no_source_of, peer_of, source_of}
use Rattle.dd_task.specs.Rules.{axioms_of, into_rules, onto_rules}
use Rattle.dd_run.specs.Fit.{HasFewConcepts, IsFitGoal, IsKeptByRelevant, closure_for}
use Rattle.dd_run.proofs.Givens.{of-items, to-items}
use Rattle.dd_run.proofs.Goals.{root-within}

module _ (job : Job) (h i : ℕ) (relevant : Contains job.relevant i) where
  -- what the rules that peer i keeps from peer h ask of an element is in the closure of h
  asked-in : (c : Concept) → has (asked_by job.pinned h i) c ≡ true → has (closure_for job h) c ≡ true
  asked-in c m =
      let at = contains-place job.relevant i relevant in
      let asked = flat_map (asked_by job.pinned h) job.relevant in
      let first = asked_first job.query h in
      closure-extra (axioms_of job.pinned h) (extra_for job h) c
      (has-append (kept_targets job.pinned h) (asked ++ first) c
      ∙ or_right (has (kept_targets job.pinned h) c) (has (asked ++ first) c)
      (has-append asked first c ∙ or_left (has asked c) (has first c) (to-items (asked_by job.pinned h) job.relevant c at.0 i at.1 m)))

  abbrev intos : List Concept
  intos = map (λ (r : Rule). nnf_not_of r.source) (into_rules job.pinned h i)

  abbrev ontos : List Concept
  ontos = map (λ (r : Rule). nnf_of r.source) (onto_rules job.pinned h i)

  onto-in : (o : ℕ) (r : Option Rule) → slice_get (onto_rules job.pinned h i) o ≡ r → (c : Concept)
      → has (option_to_list (option_map (λ (s : Rule). nnf_of s.source) r)) c ≡ true → has (closure_for job h) c ≡ true
  onto-in o None e c m = absurd (false≢true m)
  onto-in o (Some r) e c m = elim (has-cases c (nnf_of r.source) [] m) [
    | inl is ↦ asked-in c (has-append intos ontos c ∙ or_right (has intos c) (has ontos c)
        (has-get_item ontos o c (slice_get-map (λ (s : Rule). nnf_of s.source) (onto_rules job.pinned h i) o
        ∙ ap (option_map (λ (s : Rule). nnf_of s.source)) e ∙ ap Some is)))
    | inr none ↦ absurd (false≢true none)
  ]

  into-in : (k : ℕ) (r : Option Rule) → slice_get (into_rules job.pinned h i) k ≡ r → (c : Concept)
      → has (option_to_list (option_map (λ (s : Rule). nnf_not_of s.source) r)) c ≡ true → has (closure_for job h) c ≡ true
  into-in k None e c m = absurd (false≢true m)
  into-in k (Some r) e c m = elim (has-cases c (nnf_not_of r.source) [] m) [
    | inl is ↦ asked-in c (has-append intos ontos c ∙ or_left (has intos c) (has ontos c)
        (has-get_item intos k c (slice_get-map (λ (s : Rule). nnf_not_of s.source) (into_rules job.pinned h i) k
        ∙ ap (option_map (λ (s : Rule). nnf_not_of s.source)) e ∙ ap Some is)))
    | inr none ↦ absurd (false≢true none)
  ]

  asked-within : (o : ℕ) (set : List ℕ) → is_within (asked_label job.pinned h i o set) (closure_for job h) ≡ true
  asked-within o set = within-from (asked_label job.pinned h i o set) (closure_for job h) (λ c m.
      let sources = source_of job.pinned h i o in
      let others = flat_map (no_source_of job.pinned h i) set in
      elim (or_cases (has sources c) (has others c) (sym (has-append sources others c) ∙ m)) [
        | inl t ↦ onto-in o (slice_get (onto_rules job.pinned h i) o) refl c t
        | inr t ↦ let found = of-items (no_source_of job.pinned h i) set c t in
            into-in found.1 (slice_get (into_rules job.pinned h i) found.1) refl c found.3
      ])

-- so it may be asked where the closure has few enough concepts
pub key-fit : (job : Job) (key : Key) → IsKeptByRelevant job key → HasFewConcepts job (peer_of job key) → IsFitGoal job (goal_for job key)
key-fit job Root kept few = record { few = few; inside = root-within job }
key-fit job (Asked h i o set) kept few = record { few = few; inside = asked-within job h i kept o set }
