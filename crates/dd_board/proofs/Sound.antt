-- What holds of each task of a session that came about by allowed events.
use Rattle.std.proofs.Common.{◌≡◌, ◌∙◌, ℕ, ◌+◌, ◌<◌, ◌≤◌, true, ◌||◌, List, ◌++◌, take, length, Some, ap, subst, sym, arith}
use Rattle.std.specs.List.{slice_get, list_any}
use Rattle.dd_interp.specs.declared.interp.Interp.{Interp}
use Rattle.dd_task.specs.declared.job.Job.{Job}
use Rattle.dd_task.specs.declared.job.Key.{Key}
use Rattle.dd_task.specs.declared.job.Key.TheVariants.{Root, Asked}
use Rattle.dd_task.specs.declared.line.Prop.{Prop}
use Rattle.dd_task.specs.Keys.{is_among}
use Rattle.dd_task.specs.Goals.{peer_of, goal_for}
use Rattle.dd_task.specs.Demands.{raised_by}
use Rattle.dd_task.specs.Verdicts.{IsRightOpen}
use Rattle.std.proofs.lemmas.List.{take-append-le, length-append}
use Rattle.std.proofs.lemmas.List.Folds.{list_any-append}
use Rattle.dd_board.specs.declared.event.Event.{Event}
use Rattle.dd_board.specs.declared.event.Event.TheVariants as event
use Rattle.dd_board.specs.declared.event.TaskState.TheVariants as state
use Rattle.dd_board.specs.View.{Holder, Task, into_peer}
use Rattle.dd_board.specs.Wanted.{answers}

-- the peers that a key names are declared
abbrev pub IsDeclared : Job → Key → Type 0
IsDeclared job Root = job.query.peer < length job.pinned.peers
IsDeclared job (Asked h i o set) = (h < length job.pinned.peers) × (i < length job.pinned.peers)

module _ (job : Job) where
  -- The task with this key was opened by this event: its model was right under the first `seen` propagations that there still
  -- are, and each key that the model raises has a task among the raised ones.
  pub record IsOpened (tasks : List Task) (props : List (List Prop)) (journal : List Event) (key : Key) (at : ℕ) (raised : List ℕ) (seen : ℕ) : Type 0 where
    pub t : ℕ
    pub number : ℕ
    pub model : Interp
    pub element : ℕ
    pub journalled : slice_get journal at ≡ Some (event.Opened t number model element)
    pub few : seen ≤ length (into_peer props (peer_of job key))
    pub right : IsRightOpen job (goal_for job key) (take seen (into_peer props (peer_of job key))) model element
    pub raises : (q : ℕ) (asked : Key) → slice_get (raised_by job.pinned (peer_of job key) model) q ≡ Some asked
        → (u : ℕ) × (other : Task) × (is_among raised u ≡ true) × (slice_get tasks u ≡ Some other) × (other.key ≡ asked)
    pub only : (u : ℕ) → is_among raised u ≡ true → (q : ℕ) × (asked : Key) × (other : Task)
        × (slice_get (raised_by job.pinned (peer_of job key) model) q ≡ Some asked) × (slice_get tasks u ≡ Some other) × (other.key ≡ asked)

  pub record IsSound (tasks : List Task) (props : List (List Prop)) (journal : List Event) (task : Task) : Type 0 where
    pub declared : IsDeclared job task.key
    pub held : (h : Holder) → task.holder ≡ Some h → h.seen ≤ length (into_peer props (peer_of job task.key))
    pub opened : (at : ℕ) (raised : List ℕ) (seen : ℕ) → task.state ≡ state.Open at raised seen
        → IsOpened tasks props journal task.key at raised seen
    pub proved : (line h i o : ℕ) (set : List ℕ) → task.state ≡ state.Proved line → task.key ≡ Asked h i o set
        → list_any (λ prop. answers prop (Asked h i o set)) (into_peer props i) ≡ true

  -- tasks keep their numbers and keys, the journal and the propagations only grow
  pub record Grows (tasks tasks' : List Task) (props props' : List (List Prop)) (journal journal' : List Event) : Type 0 where
    pub keys : (u : ℕ) (a : Task) → slice_get tasks u ≡ Some a → (b : Task) × (slice_get tasks' u ≡ Some b) × (b.key ≡ a.key)
    pub more : (i : ℕ) → (new : List Prop) × (into_peer props' i ≡ into_peer props i ++ new)
    pub events : (at : ℕ) (e : Event) → slice_get journal at ≡ Some e → slice_get journal' at ≡ Some e

  module _ (tasks tasks' : List Task) (props props' : List (List Prop)) (journal journal' : List Event)
      (g : Grows tasks tasks' props props' journal journal') where
    longer : (i n : ℕ) → n ≤ length (into_peer props i) → n ≤ length (into_peer props' i)
    longer i n le =
        let m = g.more i in
        let sum : length (into_peer props' i) ≡ length (into_peer props i) + length m.0 = ap length m.1 ∙ length-append (into_peer props i) m.0 in
        omega (arith, sum, le)

    same_view : (i n : ℕ) → n ≤ length (into_peer props i) → take n (into_peer props i) ≡ take n (into_peer props' i)
    same_view i n le = let m = g.more i in sym (ap (take n) m.1 ∙ take-append-le n (into_peer props i) m.0 le)

    pub kept_opened : (key : Key) (at : ℕ) (raised : List ℕ) (seen : ℕ) → IsOpened tasks props journal key at raised seen
        → IsOpened tasks' props' journal' key at raised seen
    kept_opened key at raised seen o = record {
      t = o.t;
      number = o.number;
      model = o.model;
      element = o.element;
      journalled = g.events at (event.Opened o.t o.number o.model o.element) o.journalled;
      few = longer (peer_of job key) seen o.few;
      right = subst (λ view. IsRightOpen job (goal_for job key) view o.model o.element)
          (same_view (peer_of job key) seen o.few) o.right;
      raises = λ q asked e. let r = o.raises q asked e in let k = g.keys r.0 r.1 r.3 in (r.0, k.0, r.2, k.1, k.2 ∙ r.4);
      only = λ u e. let r = o.only u e in let k = g.keys u r.2 r.4 in (r.0, r.1, k.0, r.3, k.1, k.2 ∙ r.5);
    }

    pub kept : (task : Task) → IsSound tasks props journal task → IsSound tasks' props' journal' task
    kept task s = record {
      declared = s.declared;
      held = λ h e. longer (peer_of job task.key) h.seen (s.held h e);
      opened = λ at raised seen e. kept_opened task.key at raised seen (s.opened at raised seen e);
      proved = λ line h i o set e k. let m = g.more i in
          ap (list_any (λ prop. answers prop (Asked h i o set))) m.1
          ∙ list_any-append (λ prop. answers prop (Asked h i o set)) (into_peer props i) m.0
          ∙ ap (λ b. b || list_any (λ prop. answers prop (Asked h i o set)) m.0) (s.proved line h i o set e k);
    }
