-- A task that is taken again sees more propagations than its model was made under.
use Rattle.std.proofs.Common.{◌≡◌, ◌∙◌, ℕ, zero, suc, ◌<◌, Bool, true, false, not, ◌&&◌, nat_eq, List, [], ◌∷◌, take, Option, None, Some, ap, sym, arith}
use Rattle.std.specs.List.{slice_get, list_any}
use Rattle.std.specs.Option.{option_map_or, is_some}
use Rattle.std.proofs.lemmas.Bool.{and_parts, eqb-true, false≢true, not-true}
use Rattle.std.proofs.lemmas.Option.{same_Some, slice_get_within}
use Rattle.dd_interp.specs.declared.interp.Interp.{Interp}
use Rattle.dd_peer.specs.declared.version.Pinned.{Pinned}
use Rattle.dd_peer.specs.declared.version.Rule.{Rule}
use Rattle.dd_task.specs.declared.job.Key.{Key}
use Rattle.dd_task.specs.declared.job.Key.TheVariants.{Asked}
use Rattle.dd_task.specs.declared.line.Prop.{Prop}
use Rattle.dd_task.specs.Rules.{into_rules}
use Rattle.dd_task.specs.Keys.{is_among, are_among}
use Rattle.dd_task.specs.Goals.{peer_of}
use Rattle.dd_task.specs.Targets.{in_target, in_into, in_onto, SatisfiesProp}
use Rattle.dd_task.specs.Demands.{IsRaised, false_into}
use Rattle.dd_task.proofs.Places.{All-at, at-among, among_positions}
use Rattle.dd_task.proofs.KeyLists.{raised-by}
use Rattle.dd_board.specs.declared.event.TaskState.TheVariants as state
use Rattle.dd_board.specs.View.{Task, SessionView, props_for}
use Rattle.dd_board.specs.Wanted.{answers, answers_task, is_open_due}
use Rattle.dd_board.specs.Allowed.{MayTake}
use Rattle.dd_board.proofs.Steps.{IsSoundView}
use Rattle.dd_board.proofs.Quiet.{any-found}

at-take : (A : Type 0) (n k : ℕ) (xs : List A) (x : A) → k < n → slice_get xs k ≡ Some x → slice_get (take n xs) k ≡ Some x
at-take A zero k xs x lt e = absurd (omega (arith, lt))
at-take A (suc n) k [] x lt e = e
at-take A (suc n) zero (a ∷ xs) x lt e = e
at-take A (suc n) (suc k) (a ∷ xs) x lt e = at-take A n k xs x (omega (arith, lt)) e

all_among-at : (set other : List ℕ) (n k : ℕ) → are_among set other ≡ true → slice_get set n ≡ Some k → is_among other k ≡ true
all_among-at [] other n k e at = cc
all_among-at (a ∷ set) other zero k e at = ap (is_among other) (sym (same_Some a k at)) ∙ (and_parts (is_among other a) (are_among set other) e).0
all_among-at (a ∷ set) other (suc n) k e at = all_among-at set other n k (and_parts (is_among other a) (are_among set other) e).1 at

not-both : (o : Option Rule) (f : Rule → Bool) → option_map_or (λ r. not (f r)) o false ≡ true → option_map_or f o false ≡ true → ⊥
not-both None f e h = cc
not-both (Some r) f e h = false≢true (sym (not-true (f r) e) ∙ h)

-- a propagation that a model satisfies answers no key that the model raises
pub satisfied_answers_none : (p : Pinned) (i : ℕ) (m : Interp) (prop : Prop) → SatisfiesProp p i m prop
    → (x h o : ℕ) (key : Key) → x < m.size → IsRaised p i m x h o key → answers prop key ≡ true → ⊥
satisfied_answers_none p i m prop sat x h o key lt r e =
    let set : List ℕ = false_into p h i m x in
    let hit : answers prop (Asked h i o set) ≡ true = ap (answers prop) (sym r.asked) ∙ e in
    let one = and_parts (nat_eq prop.from h) (nat_eq prop.onto o && are_among prop.into_set set) hit in
    let two = and_parts (nat_eq prop.onto o) (are_among prop.into_set set) one.1 in
    let from : prop.from ≡ h = eqb-true prop.from h one.0 in
    let onto : prop.onto ≡ o = eqb-true prop.onto o two.0 in
    let target : in_onto p prop.from i m x prop.onto ≡ true =
    ap (λ g. in_onto p g i m x prop.onto) from ∙ ap (in_onto p h i m x) onto ∙ r.in_target in
    let some = any-found ℕ (in_into p prop.from i m x) prop.into_set (sat x lt target) in
    let k : ℕ = some.1 in
    let holds : in_into p h i m x k ≡ true = ap (λ g. in_into p g i m x k) (sym from) ∙ some.3 in
    let fails : option_map_or (λ rule. not (in_target m x rule)) (slice_get (into_rules p h i) k) false ≡ true =
    sym (among_positions Rule (λ rule. not (in_target m x rule)) (into_rules p h i) k) ∙ all_among-at prop.into_set set some.0 k two.1 some.2 in
    not-both (slice_get (into_rules p h i) k) (in_target m x) fails holds

module _ (v : SessionView) (s : IsSoundView v) where
  -- a propagation that makes an open task stale is none of those that its model was made under
  pub stale_is_new : (t : ℕ) (task : Task) → slice_get v.tasks t ≡ Some task
      → (at seen : ℕ) (asks : List ℕ) → task.state ≡ state.Open at asks seen
      → (n u : ℕ) (prop : Prop) → slice_get (props_for v task) n ≡ Some prop → is_among asks u ≡ true → answers_task v prop u ≡ true → ¬ (n < seen)
  stale_is_new t task place at seen asks is n u prop there asked e lt =
      let o = (s.each t task place).opened at asks seen is in
      let from = o.only u asked in
      let origin = raised-by v.job.pinned (peer_of v.job task.key) o.model from.0 from.1 from.3 in
      let hit : answers prop from.1 ≡ true = ap (answers prop) (sym from.5) ∙ sym (ap (λ x. option_map_or (λ (y : Task). answers prop y.key) x false) from.4) ∙ e in
      satisfied_answers_none v.job.pinned (peer_of v.job task.key) o.model prop
      (All-at Prop (SatisfiesProp v.job.pinned (peer_of v.job task.key) o.model) (take seen (props_for v task)) n prop
      o.right.props
      (at-take Prop seen n (props_for v task) prop lt there))
      origin.0 origin.1 origin.2 from.1 origin.3 origin.4 hit

  -- so each take of an open task sees more than the one before it
  pub seen_grows : (t number seen : ℕ) (may : MayTake v t number seen) (at old : ℕ) (asks : List ℕ) → may.task.state ≡ state.Open at asks old → old < seen
  seen_grows t number seen may at old asks is =
      let due = and_parts (not (is_some may.task.holder)) (is_open_due v (props_for v may.task) may.task.state) may.due in
      let open_due : is_open_due v (props_for v may.task) (state.Open at asks old) ≡ true = ap (is_open_due v (props_for v may.task)) (sym is) ∙ due.1 in
      let prop = any-found Prop (λ prop. list_any (answers_task v prop) asks) (props_for v may.task) open_due in
      let asked = any-found ℕ (answers_task v prop.1) asks prop.3 in
      let within = slice_get_within (props_for v may.task) prop.0 prop.1 prop.2 in
      let new : ¬ (prop.0 < old) = stale_is_new t may.task may.at at old asks is prop.0 asked.1 prop.1 prop.2
      (at-among asks asked.0 asked.1 asked.2) asked.3 in
      omega (arith, within, new, may.sees)
