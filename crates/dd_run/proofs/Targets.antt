-- The closure of a peer has what a run at this peer gives numbers to.
use Rattle.std.proofs.Common.{◌≡◌, ◌∙◌, ◌==◌, ◌+◌, ℕ, zero, suc, true, List, [], ◌∷◌, ◌++◌, length, cond, Option, None, Some, ap, refl, sym, slice_get, inl, inr}
use Rattle.std.specs.List.{flat_map}
use Rattle.std.specs.Option.{option_map_or}
use Rattle.std.proofs.lemmas.Bool.{or_left, cases_Bool}
use Rattle.dd_concept.specs.declared.concept.Concept.{Concept}
use Rattle.dd_concept.specs.Normal.{nnf_of, nnf_not_of}
use Rattle.dd_concept.specs.Same.{has}
use Rattle.dd_concept.proofs.Sets.{has-append, has-get_item}
use Rattle.dd_peer.specs.declared.version.PeerVersion.{PeerVersion}
use Rattle.dd_peer.specs.declared.version.Rule.{Rule}
use Rattle.dd_peer.specs.Rules.{rules_from}
use Rattle.dd_rules.proofs.Closing.{closure-extra}
use Rattle.dd_task.specs.declared.job.Job.{Job}
use Rattle.dd_task.specs.Closure.{both_targets, kept_targets, asked_by, asked_first, extra_for}
use Rattle.dd_task.specs.Rules.{axioms_of, all_into, all_onto, into_rules, onto_rules}
use Rattle.dd_task.proofs.Places.{at-append, at-behind, at-flat_map}
use Rattle.dd_run.specs.Fit.{closure_for}
use Rattle.dd_run.specs.Numbers.{HaveTargets}

-- a rule among those from one peer is one of all
pub IsIn : List Rule → Rule → Type 0
IsIn rules r = (q : ℕ) × (slice_get rules q ≡ Some r)

from-first : (s : Rule) (rules few : List Rule) (r : Rule) → ((j : ℕ) → slice_get few j ≡ Some r → IsIn rules r) → (k : ℕ) → slice_get (s ∷ few) k ≡ Some r
    → IsIn (s ∷ rules) r
unfolding IsIn
from-first s rules few r rest zero e = (0, e)
from-first s rules few r rest (suc k) e = let found = rest k e in (suc found.0, found.1)

from-all : (rules : List Rule) (h k : ℕ) (r : Rule) → slice_get (rules_from rules h) k ≡ Some r → IsIn rules r
unfolding IsIn
from-all [] h k r e = cc
from-all (s ∷ rules) h k r e = elim (cases_Bool (s.from == h)) [
  | inl passes ↦ from-first s rules (rules_from rules h) r (λ j. from-all rules h j r) k
      (sym (ap (λ b. slice_get (cond b (s ∷ rules_from rules h) (rules_from rules h)) k) passes) ∙ e)
  | inr fails ↦
      let found = from-all rules h k r (sym (ap (λ b. slice_get (cond b (s ∷ rules_from rules h) (rules_from rules h)) k) fails) ∙ e) in
      (suc found.0, found.1)
]

pub from-version : (list : PeerVersion → List Rule) (o : Option PeerVersion) (h k : ℕ) (r : Rule)
    → slice_get (option_map_or (λ v. rules_from (list v) h) o []) k ≡ Some r → (q : ℕ) × (slice_get (option_map_or list o []) q ≡ Some r)
unfolding IsIn
from-version list None h k r e = cc
from-version list (Some v) h k r e = from-all (list v) h k r e

module _ (job : Job) (i : ℕ) where
  abbrev rules : List Rule
  rules = all_into job.pinned i ++ all_onto job.pinned i

  kept-in : (c : Concept) → has (kept_targets job.pinned i) c ≡ true → has (closure_for job i) c ≡ true
  kept-in c h =
      closure-extra (axioms_of job.pinned i) (extra_for job i) c
      (has-append (kept_targets job.pinned i) (flat_map (asked_by job.pinned i) job.relevant ++ asked_first job.query i) c
      ∙ or_left (has (kept_targets job.pinned i) c) (has (flat_map (asked_by job.pinned i) job.relevant ++ asked_first job.query i) c) h)

  -- the targets of a rule that the peer keeps
  target-in : (q : ℕ) (r : Rule) → slice_get rules q ≡ Some r → has (closure_for job i) (nnf_of r.target) ≡ true
  target-in q r e =
      let at = at-flat_map Rule Concept both_targets rules q 0 r (nnf_of r.target) e refl in
      kept-in (nnf_of r.target) (has-get_item (kept_targets job.pinned i) at.0 (nnf_of r.target) at.1)

  no-target-in : (q : ℕ) (r : Rule) → slice_get rules q ≡ Some r → has (closure_for job i) (nnf_not_of r.target) ≡ true
  no-target-in q r e =
      let at = at-flat_map Rule Concept both_targets rules q 1 r (nnf_not_of r.target) e refl in
      kept-in (nnf_not_of r.target) (has-get_item (kept_targets job.pinned i) at.0 (nnf_not_of r.target) at.1)

  onto-place : (h k : ℕ) (r : Rule) → slice_get (onto_rules job.pinned h i) k ≡ Some r → (q : ℕ) × (slice_get rules q ≡ Some r)
  onto-place h k r e =
      let at = from-version (λ v. v.onto) (slice_get job.pinned.peers i) h k r e in
      (length (all_into job.pinned i) + at.0, at-behind Rule (all_into job.pinned i) (all_onto job.pinned i) at.0 ∙ at.1)

  into-place : (h k : ℕ) (r : Rule) → slice_get (into_rules job.pinned h i) k ≡ Some r → (q : ℕ) × (slice_get rules q ≡ Some r)
  into-place h k r e =
      let at = from-version (λ v. v.into) (slice_get job.pinned.peers i) h k r e in
      (at.0, at-append Rule (all_into job.pinned i) (all_onto job.pinned i) at.0 r at.1)

  pub closure-targets : HaveTargets job.pinned i (closure_for job i)
  closure-targets = record {
    onto = λ h k r e. let at = onto-place h k r e in target-in at.0 r at.1;
    not_onto = λ h k r e. let at = onto-place h k r e in no-target-in at.0 r at.1;
    into = λ h k r e. let at = into-place h k r e in target-in at.0 r at.1;
  }
