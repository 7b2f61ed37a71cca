-- What holds of each task holds in every session that comes about by allowed events: by induction on the events.
use Rattle.std.proofs.Common.{◌≡◌, ◌∙◌, ◌⊎◌, ℕ, zero, suc, ◌+◌, ◌-◌, ◌<◌, true, List, [], ◌∷◌, ◌++◌, map, length, Some, ap, refl, subst, sym, inl, inr, arith}
use Rattle.std.specs.List.{slice_get, list_any}
use Rattle.std.specs.Option.{option_map, option_map_or}
use Rattle.std.proofs.lemmas.Option.{same_Some, slice_get-map}
use Rattle.dd_interp.specs.declared.interp.Interp.{Interp}
use Rattle.dd_task.specs.declared.job.Job.{Job}
use Rattle.dd_task.specs.declared.job.Key.{Key}
use Rattle.dd_task.specs.declared.job.Key.TheVariants.{Root, Asked}
use Rattle.dd_task.specs.declared.line.Line.{Line}
use Rattle.dd_task.specs.declared.line.Prop.{Prop}
use Rattle.dd_task.specs.Keys.{is_among}
use Rattle.dd_task.specs.Goals.{peer_of}
use Rattle.dd_task.specs.Demands.{raised_by}
use Rattle.dd_task.proofs.Places.{at-append, at-behind, at-among, among-at}
use Rattle.dd_task.proofs.KeyLists.{raised-by}
use Rattle.dd_board.specs.declared.event.Event.{Event}
use Rattle.dd_board.specs.declared.event.Event.TheVariants as event
use Rattle.dd_board.specs.declared.event.TaskState.TheVariants as state
use Rattle.dd_board.specs.View.{Holder, Task, SessionView, Start, into_peer, change_at}
use Rattle.dd_board.specs.Wanted.{answers}
use Rattle.dd_board.specs.Steps.{new_task, proved_by, opened_by, with_keys, number_of, keys_for, raised_keys, with_prop, last_label, props_after, apply}
use Rattle.dd_board.specs.Allowed.{MayOpen, IsAllowed}
use Rattle.dd_board.specs.Legal.{begun, IsStart, Runs, opened, stepped}
use Rattle.dd_board.proofs.Changes.{with_keys-finds, with_keys-at}
use Rattle.dd_board.proofs.Sound.{IsDeclared, IsOpened, IsSound, Grows, kept}
use Rattle.dd_board.proofs.Steps.{IsSoundView, with_prop-more, with_prop-length, with_prop-answers, same_props, changed_grows, changed_each, changed_root, gives_back, take_step, no_holder}

proved_line : (a b : ℕ) → state.Proved a ≡ state.Proved b → a ≡ b
proved_line a b e = cc

open_parts : (a b s t : ℕ) (r q : List ℕ) → state.Open a r s ≡ state.Open b q t → (a ≡ b) × (r ≡ q) × (s ≡ t)
open_parts a b s t r q e = (cc, cc, cc)

proved_not_open : (line at seen : ℕ) (raised : List ℕ) → state.Proved line ≡ state.Open at raised seen → ⊥
proved_not_open line at seen raised e = cc

open_not_proved : (line at seen : ℕ) (raised : List ℕ) → state.Open at raised seen ≡ state.Proved line → ⊥
open_not_proved line at seen raised e = cc

unknown_not_open : (at seen : ℕ) (raised : List ℕ) → state.Unknown ≡ state.Open at raised seen → ⊥
unknown_not_open at seen raised e = cc

unknown_not_proved : (line : ℕ) → state.Unknown ≡ state.Proved line → ⊥
unknown_not_proved line e = cc

-- ---- a closed verdict

module _ (v : SessionView) (s : IsSoundView v) (t number count : ℕ) (lines : List Line) (task : Task) (at : slice_get v.tasks t ≡ Some task) where
  abbrev line : ℕ
  line = length v.lines + length lines - 1

  abbrev new_props : List (List Prop)
  new_props = with_prop v.job.pinned (last_label lines) line v.props task.key

  props_are : props_after v t lines ≡ new_props
  props_are = ap (λ o. option_map_or (λ (x : Task). with_prop v.job.pinned (last_label lines) line v.props x.key) o v.props) at

  pub close_more : (i : ℕ) → (new : List Prop) × (into_peer (props_after v t lines) i ≡ into_peer v.props i ++ new)
  close_more i = let h = with_prop-more v.job.pinned (last_label lines) line v.props task.key i in
      (h.0, ap (λ props. into_peer props i) props_are ∙ h.1)

  close_length : length (props_after v t lines) ≡ length v.job.pinned.peers
  close_length = ap length props_are ∙ with_prop-length v.job.pinned (last_label lines) line v.props task.key ∙ s.peers

  abbrev closed_event : Event
  closed_event = event.Closed t number count

  abbrev closed_tasks : List Task
  closed_tasks = change_at (proved_by line) v.tasks t

  close_grows : Grows v.job v.tasks closed_tasks v.props (props_after v t lines) v.journal (v.journal ++ closed_event ∷ [])
  close_grows = changed_grows v.job v.tasks v.props (props_after v t lines) v.journal closed_event t (proved_by line) (λ a. refl) close_more

  -- the key of the task has a propagation now
  close_answers : (h i o : ℕ) (set : List ℕ) → task.key ≡ Asked h i o set → (i < length v.job.pinned.peers)
      → list_any (λ prop. answers prop (Asked h i o set)) (into_peer (props_after v t lines) i) ≡ true
  close_answers h i o set k declared =
      let lt : i < length v.props = omega (arith, s.peers, declared) in
      ap (λ props. list_any (λ prop. answers prop (Asked h i o set)) (into_peer props i)) props_are
      ∙ ap (λ key. list_any (λ prop. answers prop (Asked h i o set)) (into_peer (with_prop v.job.pinned (last_label lines) line v.props key) i)) k
      ∙ with_prop-answers v.job.pinned (last_label lines) line v.props h i o set lt

  target_declared : (h i o : ℕ) (set : List ℕ) (key : Key) → key ≡ Asked h i o set → IsDeclared v.job key → i < length v.job.pinned.peers
  target_declared h i o set key k d = let both : IsDeclared v.job (Asked h i o set) = subst (IsDeclared v.job) k d in both.1

  close_step : IsSoundView (apply v (event.Closed t number count) lines)
  close_step =
      let new : (a : Task) → slice_get v.tasks t ≡ Some a
      → IsSound v.job closed_tasks (props_after v t lines) (v.journal ++ closed_event ∷ []) (proved_by line a) =
      λ a is.
      let same : task ≡ a = same_Some task a (sym at ∙ is) in
      let k = kept v.job v.tasks closed_tasks v.props (props_after v t lines) v.journal (v.journal ++ closed_event ∷ []) close_grows a (s.each t a is) in
      record {
        declared = k.declared;
        held = λ h q. absurd (no_holder h q);
        opened = λ n raised seen q. absurd (proved_not_open line n seen raised q);
        proved = λ n h i o set q r.
            close_answers h i o set (ap (λ (x : Task). x.key) same ∙ r) (target_declared h i o set a.key r k.declared);
      } in
      let r = changed_root v.job v.tasks v.props (props_after v t lines) v.journal closed_event t (proved_by line) (λ a. refl) close_more
      s.root s.first s.asks_query in
      record {
        peers = close_length;
        root = r.0;
        first = r.1;
        asks_query = r.2;
        each = changed_each v.job v.tasks v.props (props_after v t lines) v.journal closed_event t (proved_by line) (λ a. refl) close_more s.each new;
      }

-- ---- an open verdict

pub peer_declared : (job : Job) (key : Key) → IsDeclared job key → peer_of job key < length job.pinned.peers
peer_declared job Root d = d
peer_declared job (Asked h i o set) d = d.0

at-mapped : (f : Key → ℕ) (ks : List Key) (j u : ℕ) → slice_get (map f ks) j ≡ Some u → (k : Key) × (slice_get ks j ≡ Some k) × (f k ≡ u)
at-mapped f [] j u e = cc
at-mapped f (k ∷ ks) zero u e = (k, refl, same_Some (f k) u e)
at-mapped f (k ∷ ks) (suc j) u e = at-mapped f ks j u e

module _ (v : SessionView) (s : IsSoundView v) (t number : ℕ) (m : Interp) (x : ℕ) (may : MayOpen v t number m x) where
  abbrev own : Task
  own = may.by.task

  abbrev keys : List Key
  keys = raised_keys v t m

  keys_are : keys ≡ raised_by v.job.pinned (peer_of v.job own.key) m
  keys_are = ap (λ o. option_map_or (keys_for v m) o []) may.by.at

  abbrev more_tasks : List Task
  more_tasks = with_keys v.tasks keys

  abbrev open_event : Event
  open_event = event.Opened t number m x

  abbrev raised : List ℕ
  raised = map (number_of more_tasks) keys

  abbrev opens : Task → Task
  opens = opened_by (length v.journal) raised

  abbrev open_tasks : List Task
  open_tasks = change_at opens more_tasks t

  -- first the new tasks
  added_grows : Grows v.job v.tasks more_tasks v.props v.props v.journal v.journal
  added_grows = record {
    keys = λ u a is. (a, at-append Task v.tasks (_) u a is, refl);
    more = same_props v.props;
    events = λ n e is. is;
  }

  added_sound : (u : ℕ) (a : Task) → (slice_get v.tasks u ≡ Some a) ⊎ ((key : Key) × (q : ℕ) × (slice_get keys q ≡ Some key) × (a ≡ new_task key))
      → IsSound v.job more_tasks v.props v.journal a
  added_sound u a (inl is) = kept v.job v.tasks more_tasks v.props v.props v.journal v.journal added_grows a (s.each u a is)
  added_sound u a (inr is) =
      let key : Key = is.0 in
      let origin = raised-by v.job.pinned (peer_of v.job own.key) m is.1 key (ap (λ ks. slice_get ks is.1) (sym keys_are) ∙ is.2) in
      let declared : IsDeclared v.job key = subst (IsDeclared v.job) (sym origin.4.asked)
      (origin.4.declared, peer_declared v.job own.key (s.each t own may.by.at).declared) in
      subst (IsSound v.job more_tasks v.props v.journal) (sym is.3) (record {
        declared = declared;
        held = λ h q. absurd (no_holder h q);
        opened = λ n r seen q. absurd (unknown_not_open n seen r q);
        proved = λ line h i o set q r. absurd (unknown_not_proved line q);
      })

  added_each : (u : ℕ) (a : Task) → slice_get more_tasks u ≡ Some a → IsSound v.job more_tasks v.props v.journal a
  added_each u a is = added_sound u a (with_keys-at v.tasks keys u a is)

  open_grows : Grows v.job more_tasks open_tasks v.props v.props v.journal (v.journal ++ open_event ∷ [])
  open_grows = changed_grows v.job more_tasks v.props v.props v.journal open_event t opens (λ a. refl) (same_props v.props)

  -- each raised key has a task among the raised ones, and they have no others
  finds : (q : ℕ) (asked : Key) → slice_get (raised_by v.job.pinned (peer_of v.job own.key) m) q ≡ Some asked
      → (u : ℕ) × (other : Task) × (is_among raised u ≡ true) × (slice_get open_tasks u ≡ Some other) × (other.key ≡ asked)
  finds q asked e =
      let there : slice_get keys q ≡ Some asked = ap (λ ks. slice_get ks q) keys_are ∙ e in
      let found = with_keys-finds v.tasks keys q asked there in
      let still = open_grows.keys (number_of more_tasks asked) found.0 found.1 in (
        number_of more_tasks asked,
        still.0,
        at-among raised q (number_of more_tasks asked) (slice_get-map (number_of more_tasks) keys q ∙ ap (option_map (number_of more_tasks)) there),
        still.1,
        still.2 ∙ found.2,
      )

  no_others : (u : ℕ) → is_among raised u ≡ true → (q : ℕ) × (asked : Key) × (other : Task)
      × (slice_get (raised_by v.job.pinned (peer_of v.job own.key) m) q ≡ Some asked) × (slice_get open_tasks u ≡ Some other) × (other.key ≡ asked)
  no_others u e =
      let place = among-at raised u e in
      let from = at-mapped (number_of more_tasks) keys place.0 u place.1 in
      let found = with_keys-finds v.tasks keys place.0 from.0 from.1 in
      let still = open_grows.keys (number_of more_tasks from.0) found.0 found.1 in (
        place.0,
        from.0,
        still.0,
        ap (λ ks. slice_get ks place.0) (sym keys_are) ∙ from.1,
        ap (slice_get open_tasks) (sym from.2) ∙ still.1,
        still.2 ∙ found.2,
      )

  opened_now : IsOpened v.job open_tasks v.props (v.journal ++ open_event ∷ []) own.key (length v.journal) raised may.by.holder.seen
  opened_now = record {
    t = t;
    number = number;
    model = m;
    element = x;
    journalled = ap (slice_get (v.journal ++ open_event ∷ [])) (let e : length v.journal ≡ length v.journal + 0 = omega arith in e)
        ∙ at-behind Event v.journal (open_event ∷ []) 0;
    few = (s.each t own may.by.at).held may.by.holder may.by.held;
    right = may.right;
    raises = finds;
    only = no_others;
  }

  own_after : (a : Task) → slice_get more_tasks t ≡ Some a → own ≡ a
  own_after a is = same_Some own a (sym (at-append Task v.tasks (_) t own may.by.at) ∙ is)

  open_new : (a : Task) → slice_get more_tasks t ≡ Some a → IsSound v.job open_tasks v.props (v.journal ++ open_event ∷ []) (opens a)
  open_new a is =
      let same : own ≡ a = own_after a is in
      let k = kept v.job more_tasks open_tasks v.props v.props v.journal (v.journal ++ open_event ∷ []) open_grows a (added_each t a is) in
      let saw : option_map_or (λ (h : Holder). h.seen) a.holder 0 ≡ may.by.holder.seen =
      ap (λ (b : Task). option_map_or (λ (h : Holder). h.seen) b.holder 0) (sym same)
      ∙ ap (λ o. option_map_or (λ (h : Holder). h.seen) o 0) may.by.held in
      record {
        declared = k.declared;
        held = λ h q. absurd (no_holder h q);
        opened = λ n r seen q.
            let parts = open_parts (length v.journal) n (option_map_or (λ (h : Holder). h.seen) a.holder 0) seen raised r q in
            subst (λ key. IsOpened v.job open_tasks v.props (v.journal ++ open_event ∷ []) key n r seen) (ap (λ (b : Task). b.key) same)
            (subst (λ c. IsOpened v.job open_tasks v.props (v.journal ++ open_event ∷ []) own.key n r c) (sym saw ∙ parts.2)
            (subst (λ c. IsOpened v.job open_tasks v.props (v.journal ++ open_event ∷ []) own.key n c may.by.holder.seen) parts.1
            (subst (λ c. IsOpened v.job open_tasks v.props (v.journal ++ open_event ∷ []) own.key c raised may.by.holder.seen) parts.0 opened_now)));
        proved = λ line h i o set q r. absurd (open_not_proved line (length v.journal) (option_map_or (λ (h : Holder). h.seen) a.holder 0) raised q);
      }

  open_step : (lines : List Line) → IsSoundView (apply v (event.Opened t number m x) lines)
  open_step lines =
      let root = added_grows.keys 0 s.root s.first in
      let r = changed_root v.job more_tasks v.props v.props v.journal open_event t opens (λ a. refl) (same_props v.props)
      root.0 root.1 (root.2 ∙ s.asks_query) in
      record {
        peers = s.peers;
        root = r.0;
        first = r.1;
        asks_query = r.2;
        each = changed_each v.job more_tasks v.props v.props v.journal open_event t opens (λ a. refl) (same_props v.props) added_each open_new;
      }

-- ---- all events

pub sound_step : (v : SessionView) (e : Event) (lines : List Line) → IsSoundView v → IsAllowed v e lines → IsSoundView (apply v e lines)
sound_step v (event.Take t worker number seen) lines s may = take_step v s t worker number seen lines may
sound_step v (event.Closed t number count) lines s may = close_step v s t number count lines may.by.task may.by.at
sound_step v (event.Opened t number m x) lines s may = open_step v s t number m x may lines
sound_step v (event.Spent t number run) lines s may = gives_back v s (event.Spent t number run) t
sound_step v (event.Give t number) lines s may = gives_back v s (event.Give t number) t

pub begins_sound : (job : Job) (start : Start) → IsStart job start → IsSoundView (begun job start)
begins_sound job start is = record {
  peers = is.each_peer;
  root = new_task Root;
  first = refl;
  asks_query = refl;
  each = λ u a at. subst (IsSound job (new_task Root ∷ []) start.props []) (only u a at) (record {
    declared = is.declared;
    held = λ h q. absurd (no_holder h q);
    opened = λ n r seen q. absurd (unknown_not_open n seen r q);
    proved = λ line h i o set q r. absurd (unknown_not_proved line q);
  });
}
  where
    only : (u : ℕ) (a : Task) → slice_get (new_task Root ∷ []) u ≡ Some a → new_task Root ≡ a
    only zero a e = same_Some (new_task Root) a e
    only (suc u) a e = cc

pub sound : (job : Job) (start : Start) (v : SessionView) → Runs job start v → IsSoundView v
sound job start v (opened is) = begins_sound job start is
sound job start v (stepped w e lines r may) = sound_step w e lines (sound job start w r) may
