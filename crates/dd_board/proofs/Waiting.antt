-- A task that is held is unknown or stale: it was due when it was taken, and nothing takes that away.
use Rattle.std.proofs.Common.{◌≡◌, ◌∙◌, ◌⊎◌, ℕ, zero, suc, ◌+◌, ◌-◌, Bool, true, false, not, List, [], ◌∷◌, ◌++◌, map, length, Option, None, Some, ap, refl, subst, sym, inl, inr}
use Rattle.std.specs.List.{slice_get, list_any, filter}
use Rattle.std.specs.Option.{option_map_or, is_some}
use Rattle.std.proofs.lemmas.Bool.{and_parts}
use Rattle.std.proofs.lemmas.Option.{same_Some}
use Rattle.dd_task.specs.declared.job.Job.{Job}
use Rattle.dd_task.specs.declared.job.Key.{Key}
use Rattle.dd_task.specs.declared.job.Key.TheVariants.{Root}
use Rattle.dd_task.specs.declared.line.Line.{Line}
use Rattle.dd_task.specs.declared.line.Prop.{Prop}
use Rattle.dd_task.specs.Goals.{peer_of}
use Rattle.dd_task.proofs.Places.{at-append}
use Rattle.dd_board.specs.declared.event.Event.{Event}
use Rattle.dd_board.specs.declared.event.Event.TheVariants as event
use Rattle.dd_board.specs.declared.event.TaskState.{TaskState}
use Rattle.dd_board.specs.declared.event.TaskState.TheVariants as state
use Rattle.dd_board.specs.View.{Holder, Task, Start, SessionView, into_peer, props_for, change_at}
use Rattle.dd_board.specs.Wanted.{answers, answers_task, is_open_due}
use Rattle.dd_board.specs.Steps.{new_task, taken, given_back, proved_by, opened_by, has_key, with_keys, number_of, raised_keys, props_after, apply}
use Rattle.dd_board.specs.Allowed.{IsAllowed}
use Rattle.dd_board.specs.Legal.{Runs, opened, stepped}
use Rattle.dd_board.proofs.Changes.{with_keys-at, any-at}
use Rattle.dd_board.proofs.Posts.{changed-apart}
use Rattle.dd_board.proofs.Quiet.{any-found}
use Rattle.dd_board.proofs.Steps.{IsSoundView, changed_grows, same_props}
use Rattle.dd_board.proofs.Soundness.{sound, close_more}

abbrev pub HeldAreDue : SessionView → Type 0
HeldAreDue v = (u : ℕ) (a : Task) (h : Holder) → slice_get v.tasks u ≡ Some a → a.holder ≡ Some h → is_open_due v (props_for v a) a.state ≡ true

found_task : (o : Option Task) (f : Task → Bool) → option_map_or f o false ≡ true → (a : Task) × (o ≡ Some a) × (f a ≡ true)
found_task None f e = cc
found_task (Some a) f e = (a, refl, e)

module _ (v w : SessionView) (keys : (u : ℕ) (a : Task) → slice_get v.tasks u ≡ Some a → (b : Task) × (slice_get w.tasks u ≡ Some b) × (b.key ≡ a.key))
    (more : (i : ℕ) → (new : List Prop) × (into_peer w.props i ≡ into_peer v.props i ++ new)) where
  still_answers : (prop : Prop) (u : ℕ) → answers_task v prop u ≡ true → answers_task w prop u ≡ true
  still_answers prop u e =
      let a = found_task (slice_get v.tasks u) (λ (x : Task). answers prop x.key) e in
      let b = keys u a.0 a.1 in
      ap (λ o. option_map_or (λ (x : Task). answers prop x.key) o false) b.1 ∙ ap (answers prop) b.2 ∙ a.2

  pub still_due : (i : ℕ) (s : TaskState) → is_open_due v (into_peer v.props i) s ≡ true → is_open_due w (into_peer w.props i) s ≡ true
  still_due i state.Unknown e = refl
  still_due i (state.Proved line) e = cc
  still_due i (state.Open at asks seen) e =
      let prop = any-found Prop (λ prop. list_any (answers_task v prop) asks) (into_peer v.props i) e in
      let one = any-found ℕ (answers_task v prop.1) asks prop.3 in
      let m = more i in
      any-at Prop (λ prop. list_any (answers_task w prop) asks) (into_peer w.props i) prop.0 prop.1
      (ap (λ l. slice_get l prop.0) m.1 ∙ at-append Prop (into_peer v.props i) m.0 prop.0 prop.1 prop.2)
      (any-at ℕ (answers_task w prop.1) asks one.0 one.1 one.2 (still_answers prop.1 one.1 one.3))

none_held : (h : Holder) → None ≡ Some h → ⊥
none_held h e = cc

-- after one task was changed: the others wait as before, and the changed one is not held, or waits as well
module _ (v w : SessionView) (same_job : peer_of w.job ≡ peer_of v.job) (tasks : List Task) (t : ℕ) (f : Task → Task)
    (tasks_are : w.tasks ≡ change_at f tasks t)
    (keys : (u : ℕ) (a : Task) → slice_get v.tasks u ≡ Some a → (b : Task) × (slice_get w.tasks u ≡ Some b) × (b.key ≡ a.key))
    (more : (i : ℕ) → (new : List Prop) × (into_peer w.props i ≡ into_peer v.props i ++ new))
    (old : (u : ℕ) (a : Task) (h : Holder) → slice_get tasks u ≡ Some a → a.holder ≡ Some h → is_open_due v (props_for v a) a.state ≡ true)
    (new : (a : Task) (h : Holder) → slice_get tasks t ≡ Some a → (f a).holder ≡ Some h → is_open_due w (props_for w (f a)) (f a).state ≡ true) where
  pub waits : HeldAreDue w
  waits u b h at held =
      let c = changed-apart Task f tasks t u b (ap (λ ts. slice_get ts u) (sym tasks_are) ∙ at) in
      by_case c.0 c.1 c.2
    where
      by_case : (a : Task) → slice_get tasks u ≡ Some a → ((u ≡ t → ⊥) × (b ≡ a)) ⊎ ((u ≡ t) × (b ≡ f a)) → is_open_due w (props_for w b) b.state ≡ true
      by_case a is (inl q) = subst (λ (x : Task). is_open_due w (props_for w x) x.state ≡ true) (sym q.1)
          (ap (λ g. is_open_due w (into_peer w.props (g a.key)) a.state) same_job
          ∙ still_due v w keys more (peer_of v.job a.key) a.state (old u a h is (ap (λ (x : Task). x.holder) (sym q.1) ∙ held)))
      by_case a is (inr q) = subst (λ (x : Task). is_open_due w (props_for w x) x.state ≡ true) (sym q.1)
          (new a h (subst (λ n. slice_get tasks n ≡ Some a) q.0 is) (ap (λ (x : Task). x.holder) (sym q.1) ∙ held))

waiting_step : (v : SessionView) (e : Event) (lines : List Line) → IsSoundView v → HeldAreDue v → IsAllowed v e lines → HeldAreDue (apply v e lines)
waiting_step v (event.Take t worker number seen) lines s d may =
    let e : Event = event.Take t worker number seen in
    let g = changed_grows v.job v.tasks v.props v.props v.journal e t (taken number seen) (λ a. refl) (same_props v.props) in
    waits v (apply v e lines) refl v.tasks t (taken number seen) refl g.keys (same_props v.props) d (λ a h is held.
    let due = and_parts (not (is_some may.task.holder)) (is_open_due v (props_for v may.task) may.task.state) may.due in
    still_due v (apply v e lines) g.keys (same_props v.props) (peer_of v.job a.key) a.state
    (subst (λ (x : Task). is_open_due v (props_for v x) x.state ≡ true) (same_Some may.task a (sym may.at ∙ is)) due.1))
waiting_step v (event.Closed t number count) lines s d may =
    let e : Event = event.Closed t number count in
    let f : Task → Task = proved_by (length v.lines + length lines - 1) in
    let more = close_more v s t number count lines may.by.task may.by.at in
    let g = changed_grows v.job v.tasks v.props (props_after v t lines) v.journal e t f (λ a. refl) more in
    waits v (apply v e lines) refl v.tasks t f refl g.keys more d (λ a h is held. absurd (none_held h held))
waiting_step v (event.Opened t number m x) lines s d may =
    let e : Event = event.Opened t number m x in
    let keys : List Key = raised_keys v t m in
    let tasks : List Task = with_keys v.tasks keys in
    let f : Task → Task = opened_by (length v.journal) (map (number_of tasks) keys) in
    let g = changed_grows v.job tasks v.props v.props v.journal e t f (λ a. refl) (same_props v.props) in
    waits v (apply v e lines) refl tasks t f refl
    (λ u a is. g.keys u a (at-append Task v.tasks (map new_task (filter (λ key. not (has_key v.tasks key)) keys)) u a is))
    (same_props v.props) (λ u a h is held. by_place u a h held (with_keys-at v.tasks keys u a is)) (λ a h is held. absurd (none_held h held))
  where
    by_place : (u : ℕ) (a : Task) (h : Holder) → a.holder ≡ Some h
        → (slice_get v.tasks u ≡ Some a) ⊎ ((key : Key) × (q : ℕ) × (slice_get (raised_keys v t m) q ≡ Some key) × (a ≡ new_task key))
        → is_open_due v (props_for v a) a.state ≡ true
    by_place u a h held (inl is) = d u a h is held
    by_place u a h held (inr is) = absurd (none_held h (ap (λ (x : Task). x.holder) (sym is.3) ∙ held))
waiting_step v (event.Spent t number run) lines s d may =
    let e : Event = event.Spent t number run in
    let g = changed_grows v.job v.tasks v.props v.props v.journal e t given_back (λ a. refl) (same_props v.props) in
    waits v (apply v e lines) refl v.tasks t given_back refl g.keys (same_props v.props) d (λ a h is held. absurd (none_held h held))
waiting_step v (event.Give t number) lines s d may =
    let e : Event = event.Give t number in
    let g = changed_grows v.job v.tasks v.props v.props v.journal e t given_back (λ a. refl) (same_props v.props) in
    waits v (apply v e lines) refl v.tasks t given_back refl g.keys (same_props v.props) d (λ a h is held. absurd (none_held h held))

pub held_are_due : (job : Job) (start : Start) (v : SessionView) → Runs job start v → HeldAreDue v
held_are_due job start v (opened is) = λ u a h at held. absurd (none_held h (ap (λ (x : Task). x.holder) (only u a at) ∙ held))
  where
    only : (u : ℕ) (a : Task) → slice_get (new_task Root ∷ []) u ≡ Some a → new_task Root ≡ a
    only zero a e = same_Some (new_task Root) a e
    only (suc u) a e = cc
held_are_due job start v (stepped x e lines r may) = waiting_step x e lines (sound job start x r) (held_are_due job start x r) may
