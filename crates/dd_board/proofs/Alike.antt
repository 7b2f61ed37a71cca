-- Sessions whose tasks differ in their holders alone have the same tasks due and wanted.
use Rattle.std.proofs.Common.{◌≡◌, ◌∙◌, ◌⊎◌, ◌↔◌, ℕ, zero, suc, false, List, [], ◌∷◌, map, Option, None, Some, ap, ap₂, refl, sym, inl, inr, option_map}
use Rattle.std.specs.List.{slice_get, list_any}
use Rattle.std.specs.Option.{option_map_or}
use Rattle.std.proofs.Math.Logic.{∥∥₁_map}
use Rattle.std.proofs.lemmas.Option.{same_Some, slice_get-map}
use Rattle.dd_task.specs.declared.job.Job.{Job}
use Rattle.dd_task.specs.declared.job.Key.{Key}
use Rattle.dd_task.specs.declared.line.Line.{Line}
use Rattle.dd_task.specs.declared.line.Prop.{Prop}
use Rattle.dd_task.specs.Goals.{peer_of}
use Rattle.dd_board.specs.declared.event.Event.{Event}
use Rattle.dd_board.specs.declared.event.Event.TheVariants as event
use Rattle.dd_board.specs.declared.event.TaskState.{TaskState}
use Rattle.dd_board.specs.declared.event.TaskState.TheVariants as state
use Rattle.dd_board.specs.declared.session.Slot.{Slot}
use Rattle.dd_board.specs.declared.session.Session.{Session}
use Rattle.dd_board.specs.View.{Task, SessionView, into_peer, change_at}
use Rattle.dd_board.specs.Wanted.{answers, answers_task, is_open_due, raises, Wanted, root, raised, IsWanted}
use Rattle.dd_board.specs.Steps.{apply}
use Rattle.dd_board.specs.Allowed.{IsAllowed}
use Rattle.dd_board.specs.Legal.{stepped, IsLegal}
use Rattle.dd_board.specs.Sessions.{task_of, session_view, HasFlags}
use Rattle.dd_board.proofs.Changes.{changed-at}
use Rattle.dd_board.proofs.Slots.{any-same}

abbrev pub key_in : Task → Key
key_in task = task.key

abbrev pub state_in : Task → TaskState
state_in task = task.state

read-map : {A B : Type 0} (f : A → B) (xs : List A) (n : ℕ) (y : B) → slice_get (map f xs) n ≡ Some y → (x : A) × (slice_get xs n ≡ Some x) × (f x ≡ y)
read-map f xs n y e = from (slice_get xs n) refl (sym (slice_get-map f xs n) ∙ e)
  where
    from : (o : Option _) → slice_get xs n ≡ o → option_map f o ≡ Some y → (x : _) × (slice_get xs n ≡ Some x) × (f x ≡ y)
    from None is q = cc
    from (Some x) is q = (x, is, same_Some (f x) y q)

key-read : (prop : Prop) (o : Option Task) → option_map_or (λ (x : Task). answers prop x.key) o false ≡ option_map_or (answers prop) (option_map key_in o) false
key-read prop None = refl
key-read prop (Some x) = refl

pub answers-by_key : (v : SessionView) (prop : Prop) (u : ℕ) → answers_task v prop u ≡ option_map_or (answers prop) (slice_get (map key_in v.tasks) u) false
answers-by_key v prop u = key-read prop (slice_get v.tasks u) ∙ ap (λ o. option_map_or (answers prop) o false) (sym (slice_get-map key_in v.tasks u))

module _ (v w : SessionView) (keys : map key_in w.tasks ≡ map key_in v.tasks) where
  pub answers-same : (prop : Prop) (u : ℕ) → answers_task w prop u ≡ answers_task v prop u
  answers-same prop u = answers-by_key w prop u ∙ (ap (λ ks. option_map_or (answers prop) (slice_get ks u) false) keys ∙ sym (answers-by_key v prop u))

  pub due-same : (props : List Prop) (s : TaskState) → is_open_due w props s ≡ is_open_due v props s
  due-same props state.Unknown = refl
  due-same props (state.Open at asks seen) =
      any-same (λ prop. list_any (answers_task w prop) asks) (λ prop. list_any (answers_task v prop) asks)
      (λ prop. any-same (answers_task w prop) (answers_task v prop) (answers-same prop) asks) props
  due-same props (state.Proved line) = refl

  module _ (states : map state_in w.tasks ≡ map state_in v.tasks) where
    wanted-on : (u : ℕ) → Wanted v u → Wanted w u
    wanted-on _ root = root
    wanted-on _ (raised x u k r) =
        let at : slice_get (map state_in w.tasks) x ≡ Some r.0.state =
        ap (λ ss. slice_get ss x) states ∙ (slice_get-map state_in v.tasks x ∙ ap (option_map state_in) r.1) in
        let there = read-map state_in w.tasks x r.0.state at in
        raised x u (wanted-on x k) (there.0, there.1, ap (λ s. raises s u) there.2 ∙ r.2)

    wanted-back : (u : ℕ) → Wanted w u → Wanted v u
    wanted-back _ root = root
    wanted-back _ (raised x u k r) =
        let at : slice_get (map state_in v.tasks) x ≡ Some r.0.state =
        ap (λ ss. slice_get ss x) (sym states) ∙ (slice_get-map state_in w.tasks x ∙ ap (option_map state_in) r.1) in
        let there = read-map state_in v.tasks x r.0.state at in
        raised x u (wanted-back x k) (there.0, there.1, ap (λ s. raises s u) there.2 ∙ r.2)

    pub wanted-same : (u : ℕ) → IsWanted v u ↔ IsWanted w u
    wanted-same u = (λ h. ∥∥₁_map h (wanted-on u), λ h. ∥∥₁_map h (wanted-back u))

-- where of a slot its holder alone is changed, all flags stay right
module _ (s s' : Session) (f : Slot → Slot) (n : ℕ) (tasks : s'.tasks ≡ change_at f s.tasks n) (job : s'.job ≡ s.job) (props : s'.props ≡ s.props)
    (key : (x : Slot) → (f x).key ≡ x.key) (state : (x : Slot) → (f x).state ≡ x.state)
    (due : (x : Slot) → (f x).is_due ≡ x.is_due) (wanted : (x : Slot) → (f x).is_wanted ≡ x.is_wanted) where
  key_after : map key_in (session_view s').tasks ≡ map key_in (session_view s).tasks
  key_after = ap (λ xs. map key_in (map task_of xs)) tasks ∙ from s.tasks n
    where
      from : (xs : List Slot) (k : ℕ) → map key_in (map task_of (change_at f xs k)) ≡ map key_in (map task_of xs)
      from [] k = refl
      from (x ∷ xs) zero = ap (λ y. y ∷ map key_in (map task_of xs)) (key x)
      from (x ∷ xs) (suc k) = ap (λ ys. x.key ∷ ys) (from xs k)

  state_after : map state_in (session_view s').tasks ≡ map state_in (session_view s).tasks
  state_after = ap (λ xs. map state_in (map task_of xs)) tasks ∙ from s.tasks n
    where
      from : (xs : List Slot) (k : ℕ) → map state_in (map task_of (change_at f xs k)) ≡ map state_in (map task_of xs)
      from [] k = refl
      from (x ∷ xs) zero = ap (λ y. y ∷ map state_in (map task_of xs)) (state x)
      from (x ∷ xs) (suc k) = ap (λ ys. x.state ∷ ys) (from xs k)

  props-same : (k : Key) → into_peer s'.props (peer_of s'.job k) ≡ into_peer s.props (peer_of s.job k)
  props-same k = ap₂ (λ (ps : List (List Prop)) (j : Job). into_peer ps (peer_of j k)) props job

  pub flags-kept : ((t : ℕ) (slot : Slot) → slice_get s.tasks t ≡ Some slot → HasFlags (session_view s) t slot)
      → (t : ℕ) (slot : Slot) → slice_get s'.tasks t ≡ Some slot → HasFlags (session_view s') t slot
  flags-kept all t slot at = by_case old.0 old.1 (same-parts old.0 old.2)
    where
      old : (a : Slot) × (slice_get s.tasks t ≡ Some a) × ((slot ≡ a) ⊎ ((t ≡ n) × (slot ≡ f a)))
      old = changed-at Slot f s.tasks n t slot (ap (λ xs. slice_get xs t) (sym tasks) ∙ at)

      same-parts : (a : Slot) → (slot ≡ a) ⊎ ((t ≡ n) × (slot ≡ f a)) → (slot.key ≡ a.key) × (slot.state ≡ a.state) × (slot.is_due ≡ a.is_due) × (slot.is_wanted ≡ a.is_wanted)
      same-parts a (inl e) = (ap (λ (x : Slot). x.key) e, ap (λ (x : Slot). x.state) e, ap (λ (x : Slot). x.is_due) e, ap (λ (x : Slot). x.is_wanted) e)
      same-parts a (inr e) = (ap (λ (x : Slot). x.key) e.1 ∙ key a, ap (λ (x : Slot). x.state) e.1 ∙ state a, ap (λ (x : Slot). x.is_due) e.1 ∙ due a, ap (λ (x : Slot). x.is_wanted) e.1 ∙ wanted a)

      by_case : (a : Slot) → slice_get s.tasks t ≡ Some a → (slot.key ≡ a.key) × (slot.state ≡ a.state) × (slot.is_due ≡ a.is_due) × (slot.is_wanted ≡ a.is_wanted)
          → HasFlags (session_view s') t slot
      by_case a is same =
          let had = all t a is in
          let w = wanted-same (session_view s) (session_view s') key_after state_after t in
          record {
            due = same.2 ∙ (had.due ∙ (sym (due-same (session_view s) (session_view s') key_after (into_peer s.props (peer_of s.job a.key)) a.state)
                ∙ (ap₂ (is_open_due (session_view s')) (ap (λ k. into_peer s.props (peer_of s.job k)) (sym same.0) ∙ sym (props-same slot.key)) (sym same.1))));
            wanted = (λ h. w.0 (had.wanted.0 (sym same.3 ∙ h)), λ h. same.3 ∙ had.wanted.1 (w.1 h));
          }

-- ---- one more event

pub legal-step : (v : SessionView) (e : Event) (lines : List Line) → IsLegal v → IsAllowed v e lines → IsLegal (apply v e lines)
legal-step v (event.Take t worker number seen) lines legal may = ∥∥₁_map legal (λ r. stepped v (event.Take t worker number seen) lines r may)
legal-step v (event.Closed t number count) lines legal may = ∥∥₁_map legal (λ r. stepped v (event.Closed t number count) lines r may)
legal-step v (event.Opened t number m x) lines legal may = ∥∥₁_map legal (λ r. stepped v (event.Opened t number m x) lines r may)
legal-step v (event.Spent t number run) lines legal may = ∥∥₁_map legal (λ r. stepped v (event.Spent t number run) lines r may)
legal-step v (event.Give t number) lines legal may = ∥∥₁_map legal (λ r. stepped v (event.Give t number) lines r may)
