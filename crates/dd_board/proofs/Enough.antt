-- A run with more expansions than its peer's closure has sets of concepts is not spent, and so a session with enough of both is not.
use Rattle.std.proofs.Common.{◌≡◌, ◌∙◌, ◌⊎◌, ℕ, zero, suc, ◌+◌, ◌^◌, ◌≤◌, Bool, true, false, cond, ◌&&◌, ◌||◌, nat_eq, List, [], ◌∷◌, ◌++◌, map, filter, length, Option, None, Some, ap, refl, subst, sym, inl, inr, arith, All, option_map, length-append}
use Rattle.std.specs.Cmp.{IsEquivalence}
use Rattle.std.specs.List.{slice_get, list_any, flat_map}
use Rattle.std.specs.Option.{option_to_list, option_map_or}
use Rattle.std.proofs.Props.{props}
use Rattle.std.proofs.Math.Logic.{∥∥₁_elim}
use Rattle.std.proofs.lemmas.Bool.{cases_Bool, and_parts, and_from, eq-eqb, false≢true}
use Rattle.std.proofs.lemmas.Option.{same_Some, slice_get-map}
use Rattle.std.proofs.lemmas.List.{length-map}
use Rattle.std.proofs.lemmas.List.Elements.{All-cons, All-nil}
use Rattle.dd_concept.specs.declared.concept.Concept.{Concept}
use Rattle.dd_concept.specs.Closed.{HasTargets, IsClosedFor}
use Rattle.dd_concept.specs.Normal.{nnf_of, nnf_not_of}
use Rattle.dd_concept.specs.Propagation.{Propagation}
use Rattle.dd_concept.specs.Same.{has, is_within, SameSet}
use Rattle.dd_concept.proofs.Closure.{reached-within}
use Rattle.dd_concept.proofs.NormalForms.{nnf_not_of-nnf_of}
use Rattle.dd_concept.proofs.Sets.{within-has, within-from, within-refl, within-both, within-trans, has-cases, has-head, has-tail, same_tests}
use Rattle.dd_peer.specs.declared.version.Pinned.{Pinned}
use Rattle.dd_peer.specs.declared.version.PeerVersion.{PeerVersion}
use Rattle.dd_peer.specs.declared.version.Rule.{Rule}
use Rattle.dd_peer.specs.Rules.{rules_from}
use Rattle.dd_peer.specs.Relevant.{is_in}
use Rattle.dd_task.specs.declared.job.Job.{Job}
use Rattle.dd_task.specs.declared.job.Key.{Key}
use Rattle.dd_task.specs.declared.job.Key.TheVariants.{Root, Asked}
use Rattle.dd_task.specs.declared.line.Line.{Line}
use Rattle.dd_task.specs.declared.line.Prop.{Prop}
use Rattle.dd_task.specs.declared.verdict.SpentRun.{SpentRun}
use Rattle.dd_task.specs.Closure.{both_targets, kept_targets, asked_by, asked_first, extra_for, IsClosureFor}
use Rattle.dd_task.specs.Goals.{goal_for, peer_of, root_label, asked_label, source_of, no_source_of}
use Rattle.dd_task.specs.Rules.{all_into, all_onto, into_rules, onto_rules, axioms_of}
use Rattle.dd_task.specs.Spent.{label_of}
use Rattle.dd_task.specs.Targets.{into_target_of, targets_by, propagation_of, propagations_of}
use Rattle.dd_task.specs.Verdicts.{IsRightSpent, all_labels}
use Rattle.dd_task.proofs.Places.{All-at, All-from, at-append, at-behind, at-append_cases, at-flat_map, flat_map-at, before_filter, among-at}
use Rattle.dd_board.specs.declared.event.Event.{Event}
use Rattle.dd_board.specs.declared.event.Event.TheVariants as event
use Rattle.dd_board.specs.View.{SessionView, Start}
use Rattle.dd_board.specs.Standing.{has_spent, IsOutcome}
use Rattle.dd_board.specs.Steps.{apply}
use Rattle.dd_board.specs.Allowed.{view_of, IsAllowed}
use Rattle.dd_board.specs.Fit.{IsPlaced}
use Rattle.dd_board.specs.Legal.{Runs, opened, stepped}
use Rattle.dd_board.specs.Enough.{HasEnoughRuns, NoRunIsSpent, EnoughIsNeverSpent}
use Rattle.dd_board.proofs.Apart.{AreApart, apart-few}
use Rattle.dd_board.proofs.Bounded.{bounded, still-calm}
use Rattle.dd_board.proofs.Changes.{any-at}
use Rattle.dd_board.proofs.Fitting.{AreFit, fit-runs, same-job, run-job}
use Rattle.dd_board.proofs.Sublists.{sublists, length-sublists, filter-is-one}

-- ---- labels are compared as sets

abbrev same_set : List Concept → List Concept → Bool
same_set a b = is_within a b && is_within b a

turned : (a b : Bool) → (a && b) ≡ (b && a)
turned true true = refl
turned true false = refl
turned false true = refl
turned false false = refl

sets-pass : (a b c : List Concept) → same_set a b ≡ true → same_set b c ≡ true → same_set a c ≡ true
sets-pass a b c e h =
    let one = and_parts (is_within a b) (is_within b a) e in
    let two = and_parts (is_within b c) (is_within c b) h in
    and_from (is_within a c) (is_within c a) (within-trans a b c one.0 two.0) (within-trans c b a two.1 one.1)

set-laws : IsEquivalence same_set
set-laws = record {
  refl = λ a. and_from (is_within a a) (is_within a a) (within-refl a) (within-refl a);
  symm = λ a b. turned (is_within a b) (is_within b a);
  congr = λ a b c e. same_tests (same_set a c) (same_set b c)
      (λ h. sets-pass b a c (turned (is_within b a) (is_within a b) ∙ e) h) (λ h. sets-pass a b c e h);
}

none-from : {A : Type 0} (q : A → Bool) (xs : List A) → ((k : ℕ) (x : A) → slice_get xs k ≡ Some x → q x ≡ true → ⊥) → list_any q xs ≡ false
none-from q [] h = refl
none-from q (y ∷ xs) h = elim (cases_Bool (q y)) [
  | inl t ↦ absurd (h 0 y refl t)
  | inr f ↦ ap (λ b. b || list_any q xs) f ∙ none-from q xs (λ k. h (suc k))
]

apart-from : {A : Type 0} (e : A → A → Bool) (xs : List A)
    → ((j k : ℕ) (x y : A) → slice_get xs j ≡ Some x → slice_get xs k ≡ Some y → e x y ≡ true → j ≡ k) → AreApart e xs
apart-from e [] h = tt
apart-from e (x ∷ xs) h = (
  none-from (e x) xs (λ k y at same. let z = h 0 (suc k) x y refl at same in absurd (omega (arith, z))),
  apart-from e xs (λ j k y z a b same. let s = h (suc j) (suc k) y z a b same in omega (arith, s)),
)

filter-has : (p : Concept → Bool) (cs : List Concept) (c : Concept) → has cs c ≡ true → p c ≡ true → has (filter p cs) c ≡ true
filter-has p [] c h is = h
filter-has p (d ∷ cs) c h is = elim (cases_Bool (p d)) [
  | inl t ↦ subst (λ b. has (cond b (d ∷ filter p cs) (filter p cs)) c ≡ true) (sym t) (elim (has-cases c d cs h) [
    | inl e ↦ subst (λ x. has (d ∷ filter p cs) x ≡ true) e (has-head d (filter p cs))
    | inr k ↦ has-tail c d (filter p cs) (filter-has p cs c k is)
  ])
  | inr f ↦ subst (λ b. has (cond b (d ∷ filter p cs) (filter p cs)) c ≡ true) (sym f) (elim (has-cases c d cs h) [
    | inl e ↦ absurd (false≢true (sym f ∙ (ap p e ∙ is)))
    | inr k ↦ filter-has p cs c k is
  ])
]

has-filter : (p : Concept → Bool) (cs : List Concept) (c : Concept) → has (filter p cs) c ≡ true → p c ≡ true
has-filter p [] c h = absurd (false≢true h)
has-filter p (d ∷ cs) c h = elim (cases_Bool (p d)) [
  | inl t ↦ elim (has-cases c d (filter p cs) (subst (λ b. has (cond b (d ∷ filter p cs) (filter p cs)) c ≡ true) t h)) [
    | inl e ↦ ap p (sym e) ∙ t
    | inr k ↦ has-filter p cs c k
  ]
  | inr f ↦ has-filter p cs c (subst (λ b. has (cond b (d ∷ filter p cs) (filter p cs)) c ≡ true) f h)
]

-- a label within a list is, as a set, one of the list's parts
label-is-part : (closure label : List Concept) → is_within label closure ≡ true → list_any (same_set label) (sublists closure) ≡ true
label-is-part closure label within =
    let part = filter-is-one (has label) closure in
    any-at (List Concept) (same_set label) (sublists closure) part.0 (filter (has label) closure) part.1
    (and_from (is_within label (filter (has label) closure)) (is_within (filter (has label) closure) label)
    (within-from label (filter (has label) closure) (λ c h. filter-has (has label) closure c (within-has label closure c within h) h))
    (within-from (filter (has label) closure) label (λ c h. has-filter (has label) closure c h)))

few-labels : (closure : List Concept) (labels : List (List Concept))
    → ((j k : ℕ) (x y : List Concept) → slice_get labels j ≡ Some x → slice_get labels k ≡ Some y → SameSet x y → j ≡ k)
    → ((k : ℕ) (x : List Concept) → slice_get labels k ≡ Some x → is_within x closure ≡ true)
    → length labels ≤ 2 ^ length closure
few-labels closure labels distinct within =
    let few : length labels ≤ length (sublists closure) = apart-few same_set set-laws labels (sublists closure)
    (apart-from same_set labels (λ j k x y a b same.
    let parts = and_parts (is_within x y) (is_within y x) same in distinct j k x y a b (within-both x y parts.0 parts.1)))
    (λ k x at. label-is-part closure x (within k x at)) in
    let count = length-sublists closure in
    omega (arith, few, count)

-- a label is within a list where each concept of it is in the list
within-at : (label other : List Concept) → ((n : ℕ) (c : Concept) → slice_get label n ≡ Some c → has other c ≡ true) → is_within label other ≡ true
within-at [] other h = refl
within-at (d ∷ ds) other h = and_from (has other d) (is_within ds other) (h 0 d refl) (within-at ds other (λ n. h (suc n)))

-- ---- what stands in a closure

option-at : {A B : Type 0} (f : A → B) (o : Option A) (n : ℕ) (y : B) → slice_get (option_to_list (option_map f o)) n ≡ Some y
    → (x : A) × (o ≡ Some x) × (f x ≡ y)
option-at f None n y e = cc
option-at f (Some x) zero y e = (x, refl, same_Some (f x) y e)
option-at f (Some x) (suc n) y e = cc

from-version : (list : PeerVersion → List Rule) (o : Option PeerVersion) (h k : ℕ) (r : Rule)
    → slice_get (option_map_or (λ v. rules_from (list v) h) o []) k ≡ Some r → (q : ℕ) × (slice_get (option_map_or list o []) q ≡ Some r)
from-version list None h k r e = cc
from-version list (Some v) h k r e = before_filter Rule (λ s. nat_eq s.from h) (list v) k r e

module _ (job : Job) (i : ℕ) (closure : List Concept) (is : IsClosureFor job i closure) where
  abbrev p : Pinned
  p = job.pinned

  -- what stands in the further concepts is in the closure
  extra-in : (n : ℕ) (c : Concept) → slice_get (extra_for job i) n ≡ Some c → has closure c ≡ true
  extra-in n c at = All-at Concept (λ d. has closure d ≡ true) (extra_for job i) n c is.is_closed.extras at

  kept-in : (n : ℕ) (c : Concept) → slice_get (kept_targets p i) n ≡ Some c → has closure c ≡ true
  kept-in n c at = extra-in n c (at-append Concept (kept_targets p i) (flat_map (asked_by p i) job.relevant ++ asked_first job.query i) n c at)

  asked-in : (k n : ℕ) (c : Concept) → is_in job.relevant k ≡ true → slice_get (asked_by p i k) n ≡ Some c → has closure c ≡ true
  asked-in k n c rel at =
      let place = among-at job.relevant k rel in
      let flat = at-flat_map ℕ Concept (asked_by p i) job.relevant place.0 n k c place.1 at in
      extra-in (length (kept_targets p i) + flat.0) c
      (at-behind Concept (kept_targets p i) (flat_map (asked_by p i) job.relevant ++ asked_first job.query i) flat.0
      ∙ at-append Concept (flat_map (asked_by p i) job.relevant) (asked_first job.query i) flat.0 c flat.1)

  first-in : (n : ℕ) (c : Concept) → slice_get (asked_first job.query i) n ≡ Some c → has closure c ≡ true
  first-in n c at =
      extra-in (length (kept_targets p i) + (length (flat_map (asked_by p i) job.relevant) + n)) c
      (at-behind Concept (kept_targets p i) (flat_map (asked_by p i) job.relevant ++ asked_first job.query i) (length (flat_map (asked_by p i) job.relevant) + n)
      ∙ (at-behind Concept (flat_map (asked_by p i) job.relevant) (asked_first job.query i) n ∙ at))

  -- ---- the targets of rules that the peer keeps

  abbrev rules : List Rule
  rules = all_into p i ++ all_onto p i

  target-in : (q : ℕ) (r : Rule) → slice_get rules q ≡ Some r → has closure (nnf_of r.target) ≡ true
  target-in q r e =
      let at = at-flat_map Rule Concept both_targets rules q 0 r (nnf_of r.target) e refl in kept-in at.0 (nnf_of r.target) at.1

  no-target-in : (q : ℕ) (r : Rule) → slice_get rules q ≡ Some r → has closure (nnf_not_of r.target) ≡ true
  no-target-in q r e =
      let at = at-flat_map Rule Concept both_targets rules q 1 r (nnf_not_of r.target) e refl in kept-in at.0 (nnf_not_of r.target) at.1

  into-place : (h k : ℕ) (r : Rule) → slice_get (into_rules p h i) k ≡ Some r → (q : ℕ) × (slice_get rules q ≡ Some r)
  into-place h k r e =
      let at = from-version (λ v. v.into) (slice_get p.peers i) h k r e in (at.0, at-append Rule (all_into p i) (all_onto p i) at.0 r at.1)

  onto-place : (h k : ℕ) (r : Rule) → slice_get (onto_rules p h i) k ≡ Some r → (q : ℕ) × (slice_get rules q ≡ Some r)
  onto-place h k r e =
      let at = from-version (λ v. v.onto) (slice_get p.peers i) h k r e in
      (length (all_into p i) + at.0, at-behind Rule (all_into p i) (all_onto p i) at.0 ∙ at.1)

  prop-in : (prop : Prop) (n : ℕ) (q : Propagation) → slice_get (propagation_of p i prop) n ≡ Some q → HasTargets closure q
  prop-in prop n q at =
      let one = option-at (targets_by p i prop) (slice_get (onto_rules p prop.from i) prop.onto) n q at in
      let place = onto-place prop.from prop.onto one.0 one.1 in
      subst (HasTargets closure) one.2 (record {
        onto = target-in place.0 one.0 place.1;
        not_onto = ap (has closure) (nnf_not_of-nnf_of one.0.target) ∙ no-target-in place.0 one.0 place.1;
        into = All-from Concept (λ c. has closure c ≡ true) (flat_map (into_target_of p prop.from i) prop.into_set) (λ m c there.
            let from = flat_map-at ℕ Concept (into_target_of p prop.from i) prop.into_set m c there in
            let rule = option-at (λ (r : Rule). nnf_of r.target) (slice_get (into_rules p prop.from i) from.1) from.2 c from.4 in
            let at = into-place prop.from from.1 rule.0 rule.1 in
            subst (λ d. has closure d ≡ true) rule.2 (target-in at.0 rule.0 at.1));
      })

  targets-in : (view : List Prop) → All (HasTargets closure) (propagations_of p i view)
  targets-in view = All-from Propagation (HasTargets closure) (propagations_of p i view) (λ n q at.
      let from = flat_map-at Prop Propagation (propagation_of p i) view n q at in prop-in from.1 from.2 q from.4)

  closed-for : (view : List Prop) → IsClosedFor (axioms_of p i) (propagations_of p i view) closure
  closed-for view = record { parts = is.is_closed.parts; sides = is.is_closed.sides; targets = targets-in view }

-- ---- the goal of a key

goal-in : (job : Job) (key : Key) (closure : List Concept) → IsClosureFor job (peer_of job key) closure
    → ((h i o : ℕ) (set : List ℕ) → key ≡ Asked h i o set → is_in job.relevant i ≡ true)
    → is_within (goal_for job key).label closure ≡ true
goal-in job Root closure is rel = within-at (root_label job.query) closure (λ n c at.
    first-in job job.query.peer closure is n c (ap (λ b. slice_get (cond b (root_label job.query) []) n) (eq-eqb job.query.peer job.query.peer refl) ∙ at))
goal-in job (Asked h i o set) closure is rel = within-at (asked_label job.pinned h i o set) closure (λ n c at.
    part n c (at-append_cases Concept (source_of job.pinned h i o) (flat_map (no_source_of job.pinned h i) set) n c at))
  where
    here : is_in job.relevant i ≡ true
    here = rel h i o set refl

    into_part : List Concept
    into_part = map (λ (r : Rule). nnf_not_of r.source) (into_rules job.pinned h i)

    part : (n : ℕ) (c : Concept) → (slice_get (source_of job.pinned h i o) n ≡ Some c) ⊎ ((j : ℕ) × (n ≡ length (source_of job.pinned h i o) + j)
        × (slice_get (flat_map (no_source_of job.pinned h i) set) j ≡ Some c)) → has closure c ≡ true
    part n c (inl at) =
        let rule = option-at (λ (r : Rule). nnf_of r.source) (slice_get (onto_rules job.pinned h i) o) n c at in
        let made : slice_get (map (λ (r : Rule). nnf_of r.source) (onto_rules job.pinned h i)) o ≡ Some c =
        slice_get-map (λ (r : Rule). nnf_of r.source) (onto_rules job.pinned h i) o ∙ (ap (option_map (λ (r : Rule). nnf_of r.source)) rule.1 ∙ ap Some rule.2) in
        asked-in job h closure is i (length (map (λ (r : Rule). nnf_not_of r.source) (into_rules job.pinned h i)) + o) c here
        (at-behind Concept (map (λ (r : Rule). nnf_not_of r.source) (into_rules job.pinned h i)) (map (λ (r : Rule). nnf_of r.source) (onto_rules job.pinned h i)) o ∙ made)
    part n c (inr at) =
        let from = flat_map-at ℕ Concept (no_source_of job.pinned h i) set at.0 c at.2 in
        let rule = option-at (λ (r : Rule). nnf_not_of r.source) (slice_get (into_rules job.pinned h i) from.1) from.2 c from.4 in
        let made : slice_get (map (λ (r : Rule). nnf_not_of r.source) (into_rules job.pinned h i)) from.1 ≡ Some c =
        slice_get-map (λ (r : Rule). nnf_not_of r.source) (into_rules job.pinned h i) from.1
        ∙ (ap (option_map (λ (r : Rule). nnf_not_of r.source)) rule.1 ∙ ap Some rule.2) in
        asked-in job h closure is i from.1 c here
        (at-append Concept (map (λ (r : Rule). nnf_not_of r.source) (into_rules job.pinned h i)) (map (λ (r : Rule). nnf_of r.source) (onto_rules job.pinned h i)) from.1 c made)

-- ---- no run is spent

labels-at : {A : Type 0} (f : A → List Concept) (labels : List A) (k : ℕ) (x : List Concept) → slice_get (map f labels) k ≡ Some x
    → (a : A) × (slice_get labels k ≡ Some a) × (f a ≡ x)
labels-at f [] k x e = cc
labels-at f (a ∷ labels) zero x e = (a, refl, same_Some (f a) x e)
labels-at f (a ∷ labels) (suc k) x e = labels-at f labels k x e

no-spent-by : (job : Job) → HasEnoughRuns job → (key : Key) (view : List Prop)
    → ((h i o : ℕ) (set : List ℕ) → key ≡ Asked h i o set → is_in job.relevant i ≡ true) → is_in job.relevant (peer_of job key) ≡ true
    → (run : SpentRun) → IsRightSpent job (goal_for job key) view run → ⊥
no-spent-by job enough key view rel own run right =
    let i : ℕ = peer_of job key in
    let e = enough i own in
    let closure : List Concept = e.0 in
    let labels : List (List Concept) = map (label_of run.concepts) (all_labels run) in
    let goals : All (λ l. is_within l closure ≡ true) ((goal_for job key).label ∷ []) =
    All-cons (λ l. is_within l closure ≡ true) (goal_for job key).label [] (goal-in job key closure e.1 rel) (All-nil (λ l. is_within l closure ≡ true)) in
    let few : length labels ≤ 2 ^ length closure = few-labels closure labels (λ j k x y a b same.
    let one = labels-at (label_of run.concepts) (all_labels run) j x a in
    let two = labels-at (label_of run.concepts) (all_labels run) k y b in
    right.distinct j k one.0 two.0 one.1 two.1 (λ c. ap (λ l. has l c) one.2 ∙ (same c ∙ ap (λ l. has l c) (sym two.2))))
    (λ k x at.
    let one = labels-at (label_of run.concepts) (all_labels run) k x at in
    subst (λ l. is_within l closure ≡ true) one.2 (∥∥₁_elim (right.reached k one.0 one.1) (hlevel props) (λ r.
    reached-within (axioms_of job.pinned i) (propagations_of job.pinned i view) closure (closed-for job i closure e.1 view)
    ((goal_for job key).label ∷ []) goals (label_of run.concepts one.0) r))) in
    let count : length labels ≡ length (all_labels run) = length-map (all_labels run) (label_of run.concepts) in
    let sum : length (all_labels run) ≡ length run.labels + 1 = length-append run.labels (run.next ∷ []) in
    let all = right.count in
    let less = e.2 in
    omega (arith, few, count, sum, all, less)

pub no-run-spent : NoRunIsSpent
no-run-spent job enough key view task run right = no-spent-by job enough key view (λ h i o set e. (task.asks h i o set e).0) task.relevant run right

-- ---- so no session is

none-spent : (job : Job) (start : Start) (v : SessionView) → Runs job start v → HasEnoughRuns v.job → IsPlaced v.job → has_spent v ≡ false
none-spent job start v (opened is) enough placed = refl
none-spent job start v (stepped w e lines r may) enough placed =
    let enough_before : HasEnoughRuns w.job = subst HasEnoughRuns (same-job w e lines) enough in
    let placed_before : IsPlaced w.job = subst IsPlaced (same-job w e lines) placed in
    none-step w e lines enough_before (fit-runs job (subst IsPlaced (run-job job start w r) placed_before) start w r)
    (none-spent job start w r enough_before placed_before) may
  where
    none-step : (w : SessionView) (e : Event) (lines : List Line) → HasEnoughRuns w.job → AreFit w.job w.tasks w.props → has_spent w ≡ false
        → IsAllowed w e lines → has_spent (apply w e lines) ≡ false
    none-step w (event.Take t worker number seen) lines enough fit calm may = still-calm w (event.Take t worker number seen) calm refl
    none-step w (event.Closed t number count) lines enough fit calm may = still-calm w (event.Closed t number count) calm refl
    none-step w (event.Opened t number m x) lines enough fit calm may = still-calm w (event.Opened t number m x) calm refl
    none-step w (event.Spent t number run) lines enough fit calm may =
        let key = fit.keys t may.by.task may.by.at in
        absurd (no-spent-by w.job enough may.by.task.key (view_of w may.by.task may.by.holder) (λ h i o set e. (key.asks h i o set e).0) key.relevant run may.right)
    none-step w (event.Give t number) lines enough fit calm may = still-calm w (event.Give t number) calm refl

pub never-spent : EnoughIsNeverSpent
never-spent v legal placed runs verdicts o is = (
  λ e. false≢true (sym calm ∙ (subst (IsOutcome v) e is).1),
  λ e. let over = (subst (IsOutcome v) e is).3 in let few = (bounded v legal placed).all in absurd (omega (arith, over, few, verdicts)),
)
  where
    calm : has_spent v ≡ false
    calm = ∥∥₁_elim legal (hlevel props) (λ r. none-spent v.job v.start v r runs placed)
