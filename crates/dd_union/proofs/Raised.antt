-- In a quiet session each task that a wanted open one raised is wanted and open.
use Rattle.std.proofs.Common.{◌≡◌, ◌∙◌, ℕ, true, false, not, ◌&&◌, List, Some, ap, refl, sym}
use Rattle.std.specs.List.{slice_get, list_any}
use Rattle.std.specs.Option.{option_map_or}
use Rattle.std.proofs.Math.Logic.{∥∥₁_map}
use Rattle.std.proofs.lemmas.Bool.{false≢true}
use Rattle.dd_task.specs.declared.job.Key.TheVariants.{Asked}
use Rattle.dd_task.specs.declared.line.Prop.{Prop}
use Rattle.dd_task.specs.Keys.{is_among}
use Rattle.dd_task.specs.Goals.{peer_of}
use Rattle.dd_task.proofs.Places.{among-at}
use Rattle.dd_board.specs.declared.event.TaskState.{TaskState}
use Rattle.dd_board.specs.declared.event.TaskState.TheVariants as state
use Rattle.dd_board.specs.View.{Task, SessionView, props_for}
use Rattle.dd_board.specs.Wanted.{answers, answers_task, is_open_due, raises, raised, IsWanted}
use Rattle.dd_board.specs.Standing.{IsQuiet}
use Rattle.dd_board.proofs.Changes.{any-at}
use Rattle.dd_board.proofs.Steps.{IsSoundView}
use Rattle.dd_board.proofs.Quiet.{IsOpenTask, any-found}

module _ (v : SessionView) (s : IsSoundView v) (quiet : IsQuiet v) where
  -- a wanted task is neither unknown nor stale
  calm : (t : ℕ) (task : Task) → IsWanted v t → slice_get v.tasks t ≡ Some task → is_open_due v (props_for v task) task.state ≡ false
  calm t task wanted at =
      let q = quiet t task wanted at in
      sym (ap (λ held. not held && is_open_due v (props_for v task) task.state) q.1) ∙ q.0

  module _ (t : ℕ) (task : Task) (o : IsOpenTask v t task) (u : ℕ) (other : Task) (there : is_among o.asks u ≡ true)
      (place : slice_get v.tasks u ≡ Some other) where
    wanted_next : IsWanted v u
    wanted_next = ∥∥₁_map o.wanted (λ w. raised t u w (task, o.at, ap (λ x. raises x u) o.is_open ∙ there))

    -- no propagation answers its key
    unanswered : list_any (λ prop. answers prop other.key) (props_for v task) ≡ true → ⊥
    unanswered e =
        let found = any-found Prop (λ prop. answers prop other.key) (props_for v task) e in
        let one = among-at o.asks u there in
        let meets : answers_task v found.1 u ≡ true = ap (λ a. option_map_or (λ (x : Task). answers found.1 x.key) a false) place ∙ found.3 in
        let hits : list_any (answers_task v found.1) o.asks ≡ true = any-at ℕ (answers_task v found.1) o.asks one.0 u one.1 meets in
        let stale : is_open_due v (props_for v task) task.state ≡ true =
        ap (is_open_due v (props_for v task)) o.is_open
        ∙ any-at Prop (λ prop. list_any (answers_task v prop) o.asks) (props_for v task) found.0 found.1 found.2 hits in
        false≢true (sym (calm t task o.wanted o.at) ∙ stale)

    by_state : (h n : ℕ) (set : List ℕ) → other.key ≡ Asked h (peer_of v.job task.key) n set → (st : TaskState) → other.state ≡ st
        → IsOpenTask v u other
    by_state h n set k state.Unknown is =
        absurd (false≢true (sym (calm u other wanted_next place) ∙ ap (is_open_due v (props_for v other)) is))
    by_state h n set k (state.Open event asks seen) is = record {
      wanted = wanted_next;
      at = place;
      event = event;
      asks = asks;
      seen = seen;
      is_open = is;
    }
    by_state h n set k (state.Proved line) is =
        absurd (unanswered (ap (λ x. list_any (λ prop. answers prop x) (props_for v task)) k
        ∙ (s.each u other place).proved line h (peer_of v.job task.key) n set is k))

    pub next_is_open : (h n : ℕ) (set : List ℕ) → other.key ≡ Asked h (peer_of v.job task.key) n set → IsOpenTask v u other
    next_is_open h n set k = by_state h n set k other.state refl
