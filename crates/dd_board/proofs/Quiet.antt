-- In a quiet session no raised key of a wanted task is answered by a propagation, so each has an open task.
use Rattle.std.proofs.Common.{◌≡◌, ◌∙◌, ℕ, suc, Bool, true, false, not, ◌||◌, ◌&&◌, List, [], ◌∷◌, Some, ap, refl, sym, inl, inr}
use Rattle.std.specs.List.{slice_get, list_any}
use Rattle.std.specs.Option.{option_map_or, is_some}
use Rattle.std.proofs.Math.Logic.{∥∥₁_map}
use Rattle.std.proofs.lemmas.Bool.{cases_Bool, false≢true}
use Rattle.dd_task.specs.declared.job.Key.{Key}
use Rattle.dd_task.specs.declared.job.Key.TheVariants.{Asked}
use Rattle.dd_task.specs.declared.line.Prop.{Prop}
use Rattle.dd_task.specs.Keys.{is_among}
use Rattle.dd_task.specs.Goals.{peer_of}
use Rattle.dd_task.specs.Demands.{raised_by, false_into}
use Rattle.dd_task.proofs.Places.{among-at}
use Rattle.dd_task.proofs.KeyLists.{raised-by}
use Rattle.dd_board.specs.declared.event.TaskState.{TaskState}
use Rattle.dd_board.specs.declared.event.TaskState.TheVariants as state
use Rattle.dd_board.specs.View.{Task, SessionView, props_for}
use Rattle.dd_board.specs.Wanted.{answers, answers_task, is_open_due, is_due, raises, root, raised, IsWanted}
use Rattle.dd_board.specs.Standing.{IsQuiet}
use Rattle.dd_board.proofs.Changes.{any-at}
use Rattle.dd_board.proofs.Sound.{IsOpened}
use Rattle.dd_board.proofs.Steps.{IsSoundView}

-- where a test passes on some item
pub any-found : (A : Type 0) (p : A → Bool) (xs : List A) → list_any p xs ≡ true → (k : ℕ) × (x : A) × (slice_get xs k ≡ Some x) × (p x ≡ true)
any-found A p [] e = cc
any-found A p (a ∷ xs) e = elim (cases_Bool (p a)) [
  | inl passes ↦ (0, a, refl, passes)
  | inr fails ↦ let h = any-found A p xs (ap (λ b. b || list_any p xs) (sym fails) ∙ e) in (suc h.0, h.1, h.2, h.3)
]

-- a task in this state is not held, and it is unknown
module _ (v : SessionView) where
  free_due : (task : Task) (b : Bool) → is_some task.holder ≡ false → is_open_due v (props_for v task) task.state ≡ b → is_due v task ≡ b
  free_due task b free e = ap (λ c. not c && is_open_due v (props_for v task) task.state) free ∙ e

  answered : (prop : Prop) (u : ℕ) (task : Task) → slice_get v.tasks u ≡ Some task → answers prop task.key ≡ answers_task v prop u
  answered prop u task at = sym (ap (λ o. option_map_or (λ (x : Task). answers prop x.key) o false) at)

  -- an open task one of whose raised keys a propagation answers is due, unless it is held
  stale : (t : ℕ) (task : Task) (at seen : ℕ) (asks : List ℕ) → task.state ≡ state.Open at asks seen
      → (u : ℕ) → is_among asks u ≡ true → (other : Task) → slice_get v.tasks u ≡ Some other
      → list_any (λ prop. answers prop other.key) (props_for v task) ≡ true → is_open_due v (props_for v task) task.state ≡ true
  stale t task at seen asks is u there other place e =
      let found = any-found Prop (λ prop. answers prop other.key) (props_for v task) e in
      let one = among-at asks u there in
      let hits : list_any (answers_task v found.1) asks ≡ true = any-at ℕ (answers_task v found.1) asks one.0 u one.1 (sym (answered found.1 u other place) ∙ found.3) in
      ap (is_open_due v (props_for v task)) is
      ∙ any-at Prop (λ prop. list_any (answers_task v prop) asks) (props_for v task) found.0 found.1 found.2 hits

-- the state of a task, by cases
data Stands (s : TaskState) : Type 0 where
  unknown : s ≡ state.Unknown → Stands s
  open_now : (at seen : ℕ) (asks : List ℕ) → s ≡ state.Open at asks seen → Stands s
  proved_now : (line : ℕ) → s ≡ state.Proved line → Stands s

stands : (s : TaskState) → Stands s
stands state.Unknown = unknown refl
stands (state.Open at asks seen) = open_now at seen asks refl
stands (state.Proved line) = proved_now line refl

-- the task is there, wanted and open
pub record IsOpenTask (v : SessionView) (u : ℕ) (task : Task) : Type 0 where
  pub wanted : IsWanted v u
  pub at : slice_get v.tasks u ≡ Some task
  pub event : ℕ
  pub asks : List ℕ
  pub seen : ℕ
  pub is_open : task.state ≡ state.Open event asks seen

module _ (v : SessionView) (s : IsSoundView v) (quiet : IsQuiet v) where
  -- each raised key of a wanted open task has a wanted open task
  module _ (t : ℕ) (task : Task) (o : IsOpenTask v t task) where
    abbrev opening : IsOpened v.job v.tasks v.props v.journal task.key o.event o.asks o.seen
    opening = (s.each t task o.at).opened o.event o.asks o.seen o.is_open

    wanted_next : (u : ℕ) → is_among o.asks u ≡ true → IsWanted v u
    wanted_next u there = ∥∥₁_map o.wanted (λ w. raised t u w (task, o.at, ap (λ x. raises x u) o.is_open ∙ there))

    not_stale : (u : ℕ) (other : Task) → is_among o.asks u ≡ true → slice_get v.tasks u ≡ Some other
        → list_any (λ prop. answers prop other.key) (props_for v task) ≡ true → ⊥
    not_stale u other there place e =
        let calm = quiet t task o.wanted o.at in
        false≢true (sym calm.0 ∙ free_due v task true calm.1 (stale v t task o.event o.seen o.asks o.is_open u there other place e))

    next_open : (q : ℕ) (asked : Key) → slice_get (raised_by v.job.pinned (peer_of v.job task.key) opening.model) q ≡ Some asked
        → (u : ℕ) (other : Task) → is_among o.asks u ≡ true → slice_get v.tasks u ≡ Some other → other.key ≡ asked → Stands other.state
        → IsOpenTask v u other
    next_open q asked e u other there place k (unknown is) =
        let calm = quiet u other (wanted_next u there) place in
        absurd (false≢true (sym calm.0 ∙ free_due v other true calm.1 (ap (is_open_due v (props_for v other)) is)))
    next_open q asked e u other there place k (open_now at seen asks is) = record {
      wanted = wanted_next u there;
      at = place;
      event = at;
      asks = asks;
      seen = seen;
      is_open = is;
    }
    next_open q asked e u other there place k (proved_now line is) =
        let origin = raised-by v.job.pinned (peer_of v.job task.key) opening.model q asked e in
        let key : other.key ≡ Asked origin.1 (peer_of v.job task.key) origin.2 (false_into v.job.pinned origin.1 (peer_of v.job task.key) opening.model origin.0) =
        k ∙ origin.4.asked in
        absurd (not_stale u other there place
        (ap (λ x. list_any (λ prop. answers prop x) (props_for v task)) key
        ∙ (s.each u other place).proved line origin.1 (peer_of v.job task.key) origin.2
        (false_into v.job.pinned origin.1 (peer_of v.job task.key) opening.model origin.0) is key))

    -- so no raised key has a proved subset, and each has an open task
    pub raised_is_open : (q : ℕ) (asked : Key) → slice_get (raised_by v.job.pinned (peer_of v.job task.key) opening.model) q ≡ Some asked
        → (u : ℕ) × (other : Task) × (other.key ≡ asked) × IsOpenTask v u other
    raised_is_open q asked e =
        let r = opening.raises q asked e in
        (r.0, r.1, r.4, next_open q asked e r.0 r.1 r.2 r.3 r.4 (stands r.1.state))

  root_open : (a : Task) → slice_get v.tasks 0 ≡ Some a → Stands a.state → ((line : ℕ) → a.state ≡ state.Proved line → ⊥) → IsOpenTask v 0 a
  root_open a at (unknown is) n =
      let calm = quiet 0 a ∣ root ∣₁ at in
      absurd (false≢true (sym calm.0 ∙ free_due v a true calm.1 (ap (is_open_due v (props_for v a)) is)))
  root_open a at (open_now e seen asks is) n = record { wanted = ∣ root ∣₁; at = at; event = e; asks = asks; seen = seen; is_open = is }
  root_open a at (proved_now line is) n = absurd (n line is)

  pub root_is_open : (a : Task) → slice_get v.tasks 0 ≡ Some a → ((line : ℕ) → a.state ≡ state.Proved line → ⊥) → IsOpenTask v 0 a
  root_is_open a at n = root_open a at (stands a.state) n
