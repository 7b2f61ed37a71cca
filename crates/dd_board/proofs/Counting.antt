-- The posts on each task are counted along the events of a session.
use Rattle.std.proofs.Common.{◌≡◌, ◌∙◌, ◌⊎◌, ℕ, zero, suc, ◌+◌, ◌-◌, ◌<◌, ◌≤◌, Bool, true, false, not, ◌||◌, nat_eq, cond, List, [], ◌∷◌, ◌++◌, map, length, None, Some, ap, refl, subst, sym, inl, inr, arith}
use Rattle.std.specs.List.{slice_get, list_any, count_by, filter}
use Rattle.std.specs.Option.{option_map_or, is_some}
use Rattle.std.proofs.lemmas.Bool.{ne_eqb, eq-eqb, false≢true, and_parts}
use Rattle.std.proofs.lemmas.Option.{same_Some, slice_get_within}
use Rattle.std.proofs.lemmas.List.{length-append}
use Rattle.std.proofs.lemmas.List.Folds.{list_any-append}
use Rattle.dd_interp.specs.declared.interp.Interp.{Interp}
use Rattle.dd_task.specs.declared.job.Job.{Job}
use Rattle.dd_task.specs.declared.job.Key.{Key}
use Rattle.dd_task.specs.declared.job.Key.TheVariants.{Root}
use Rattle.dd_task.specs.declared.line.Line.{Line}
use Rattle.dd_task.specs.declared.line.Prop.{Prop}
use Rattle.dd_task.specs.Goals.{peer_of}
use Rattle.dd_task.proofs.Places.{at-append, at-append_cases}
use Rattle.dd_board.specs.declared.event.Event.{Event}
use Rattle.dd_board.specs.declared.event.Event.TheVariants as event
use Rattle.dd_board.specs.declared.event.TaskState.TheVariants as state
use Rattle.dd_board.specs.View.{Holder, Task, Start, SessionView, into_peer, props_for, change_at}
use Rattle.dd_board.specs.Wanted.{is_due, is_open_due}
use Rattle.dd_board.specs.Standing.{is_spent, has_spent}
use Rattle.dd_board.specs.Steps.{new_task, taken, given_back, proved_by, opened_by, has_key, with_keys, number_of, raised_keys, props_after, apply}
use Rattle.dd_board.specs.Allowed.{MayTake, MayClose, MayOpen, IsAllowed}
use Rattle.dd_board.specs.Legal.{begun, Runs, opened, stepped}
use Rattle.dd_board.specs.Bound.{is_post_on}
use Rattle.dd_board.proofs.Changes.{length-changed}
use Rattle.dd_board.proofs.Steps.{IsSoundView}
use Rattle.dd_board.proofs.Soundness.{sound, close_more}
use Rattle.dd_board.proofs.Growth.{seen_grows}
use Rattle.dd_board.proofs.Posts.{count_more, spent_before, changed-apart, IsCounted, counted_more, counted_bound, counted_taken, counted_free, counted_open, counted_proved}

abbrev pub size : List (List Prop) → Job → Key → ℕ
size props job key = length (into_peer props (peer_of job key))

abbrev one_if : Bool → ℕ
one_if b = cond b 1 0

pub record AreCounted (v : SessionView) : Type 0 where
  pub grown : (i : ℕ) → length (into_peer v.start.props i) ≤ length (into_peer v.props i)
  pub beyond : (u : ℕ) → length v.tasks ≤ u → count_by (is_post_on u) v.journal ≡ 0
  pub each : has_spent v ≡ false → (u : ℕ) (a : Task) → slice_get v.tasks u ≡ Some a
      → IsCounted a (count_by (is_post_on u) v.journal) (size v.start.props v.job a.key) (size v.props v.job a.key)

-- ---- one task is changed by an event

module _ (job : Job) (start : Start) (tasks : List Task) (props later : List (List Prop)) (journal : List Event) (e : Event) (t : ℕ) (f : Task → Task)
    (more : (i : ℕ) → length (into_peer props i) ≤ length (into_peer later i))
    (others : (u : ℕ) → (u ≡ t → ⊥) → is_post_on u e ≡ false) where
  same_count : (u : ℕ) → (u ≡ t → ⊥) → count_by (is_post_on u) (journal ++ e ∷ []) ≡ count_by (is_post_on u) journal
  same_count u other =
      let m = count_more journal e u in
      let z : one_if (is_post_on u e) ≡ 0 = ap one_if (others u other) in
      omega (arith, m, z)

  changed_counted : ((u : ℕ) (a : Task) → slice_get tasks u ≡ Some a
      → IsCounted a (count_by (is_post_on u) journal) (size start.props job a.key) (size props job a.key))
      → ((a : Task) → slice_get tasks t ≡ Some a
      → IsCounted (f a) (count_by (is_post_on t) (journal ++ e ∷ [])) (size start.props job (f a).key) (size later job (f a).key))
      → (u : ℕ) (b : Task) → slice_get (change_at f tasks t) u ≡ Some b
      → IsCounted b (count_by (is_post_on u) (journal ++ e ∷ [])) (size start.props job b.key) (size later job b.key)
  changed_counted all own u b at = let h = changed-apart Task f tasks t u b at in from h.0 h.1 h.2
    where
      from : (a : Task) → slice_get tasks u ≡ Some a → ((u ≡ t → ⊥) × (b ≡ a)) ⊎ ((u ≡ t) × (b ≡ f a))
          → IsCounted b (count_by (is_post_on u) (journal ++ e ∷ [])) (size start.props job b.key) (size later job b.key)
      from a is (inl q) = subst (λ (x : Task). IsCounted x (count_by (is_post_on u) (journal ++ e ∷ [])) (size start.props job x.key) (size later job x.key)) (sym q.1)
          (subst (λ n. IsCounted a n (size start.props job a.key) (size later job a.key)) (sym (same_count u q.0))
          (counted_more a (count_by (is_post_on u) journal) (size start.props job a.key) (size props job a.key) (size later job a.key)
          (more (peer_of job a.key)) (all u a is)))
      from a is (inr q) = subst (λ (x : Task). IsCounted x (count_by (is_post_on u) (journal ++ e ∷ [])) (size start.props job x.key) (size later job x.key)) (sym q.1)
          (subst (λ n. IsCounted (f a) (count_by (is_post_on n) (journal ++ e ∷ [])) (size start.props job (f a).key) (size later job (f a).key)) (sym q.0)
          (own a (subst (λ n. slice_get tasks n ≡ Some a) q.0 is)))

  -- and the posts beyond the tasks stay none
  beyond_counted : (count : ℕ) → t < count → ((u : ℕ) → count ≤ u → count_by (is_post_on u) journal ≡ 0)
      → (u : ℕ) → count ≤ u → count_by (is_post_on u) (journal ++ e ∷ []) ≡ 0
  beyond_counted count lt none u le = same_count u (λ same. absurd (omega (arith, lt, le, same))) ∙ none u le

no_more : (props : List (List Prop)) (i : ℕ) → length (into_peer props i) ≤ length (into_peer props i)
no_more props i = omega arith

apart : (t u : ℕ) → (u ≡ t → ⊥) → nat_eq t u ≡ false
apart t u other = ne_eqb t u (λ e. other (sym e))

one_more : (journal : List Event) (e : Event) (t : ℕ) → is_post_on t e ≡ true → count_by (is_post_on t) (journal ++ e ∷ []) ≡ count_by (is_post_on t) journal + 1
one_more journal e t is = count_more journal e t ∙ ap (λ b. count_by (is_post_on t) journal + cond b 1 0) is

none_more : (journal : List Event) (e : Event) (t : ℕ) → is_post_on t e ≡ false → count_by (is_post_on t) (journal ++ e ∷ []) ≡ count_by (is_post_on t) journal
none_more journal e t is =
    let m = count_more journal e t in
    let z : one_if (is_post_on t e) ≡ 0 = ap one_if is in
    omega (arith, m, z)

not_due : (v : SessionView) (task : Task) → is_due v task ≡ true → (line : ℕ) → task.state ≡ state.Proved line → ⊥
not_due v task due line is = false≢true (sym (ap (is_open_due v (props_for v task)) is)
    ∙ (and_parts (not (is_some task.holder)) (is_open_due v (props_for v task) task.state) due).1)

or-last : (a : Bool) → (a || true) ≡ false → ⊥
or-last true e = false≢true (sym e)
or-last false e = false≢true (sym e)

module _ (v : SessionView) (s : IsSoundView v) (c : AreCounted v) where
  take_counted : (t worker number seen : ℕ) (lines : List Line) → MayTake v t number seen → AreCounted (apply v (event.Take t worker number seen) lines)
  take_counted t worker number seen lines may =
      let e : Event = event.Take t worker number seen in
      let lt : t < length v.tasks = slice_get_within v.tasks t may.task may.at in
      let size_is : length (change_at (taken number seen) v.tasks t) ≡ length v.tasks = length-changed Task (taken number seen) v.tasks t in
      record {
        grown = c.grown;
        beyond = λ u le. beyond_counted v.job v.start v.tasks v.props v.props v.journal e t (taken number seen) (no_more v.props) (λ n o. refl)
            (length v.tasks) lt c.beyond u (omega (arith, size_is, le));
        each = λ calm. changed_counted v.job v.start v.tasks v.props v.props v.journal e t (taken number seen) (no_more v.props) (λ n o. refl)
            (c.each (spent_before v.journal e calm)) (λ a is.
            let same : may.task ≡ a = same_Some may.task a (sym may.at ∙ is) in
            subst (λ n. IsCounted (taken number seen a) n (size v.start.props v.job a.key) (size v.props v.job a.key)) (sym (none_more v.journal e t refl))
            (counted_taken a (count_by (is_post_on t) v.journal) (size v.start.props v.job a.key) (size v.props v.job a.key) number seen
            (c.each (spent_before v.journal e calm) t a is)
            (may.sees ∙ ap (λ (x : Task). length (props_for v x)) same)
            (λ line q. not_due v may.task may.due line (ap (λ (x : Task). x.state) same ∙ q))
            (λ at old asks q. seen_grows v s t number seen may at old asks (ap (λ (x : Task). x.state) same ∙ q))));
      }

  free_counted : (e : Event) (t : ℕ) → t < length v.tasks → ((u : ℕ) → (u ≡ t → ⊥) → is_post_on u e ≡ false)
      → (has_spent (record v { tasks = change_at given_back v.tasks t; journal = v.journal ++ e ∷ [] }) ≡ false → is_post_on t e ≡ false)
      → AreCounted (record v { tasks = change_at given_back v.tasks t; journal = v.journal ++ e ∷ [] })
  free_counted e t lt others none =
      let size_is : length (change_at given_back v.tasks t) ≡ length v.tasks = length-changed Task given_back v.tasks t in
      record {
        grown = c.grown;
        beyond = λ u le. beyond_counted v.job v.start v.tasks v.props v.props v.journal e t given_back (no_more v.props) others
            (length v.tasks) lt c.beyond u (omega (arith, size_is, le));
        each = λ calm. changed_counted v.job v.start v.tasks v.props v.props v.journal e t given_back (no_more v.props) others
            (c.each (spent_before v.journal e calm)) (λ a is.
            subst (λ n. IsCounted (given_back a) n (size v.start.props v.job a.key) (size v.props v.job a.key)) (sym (none_more v.journal e t (none calm)))
            (counted_free a (count_by (is_post_on t) v.journal) (size v.start.props v.job a.key) (size v.props v.job a.key)
            (c.each (spent_before v.journal e calm) t a is)));
      }

  close_counted : (t number count : ℕ) (lines : List Line) → MayClose v t number count lines → AreCounted (apply v (event.Closed t number count) lines)
  close_counted t number count lines may =
      let e : Event = event.Closed t number count in
      let line : ℕ = length v.lines + length lines - 1 in
      let lt : t < length v.tasks = slice_get_within v.tasks t may.by.task may.by.at in
      let size_is : length (change_at (proved_by line) v.tasks t) ≡ length v.tasks = length-changed Task (proved_by line) v.tasks t in
      let more : (i : ℕ) → length (into_peer v.props i) ≤ length (into_peer (props_after v t lines) i) = λ i.
      let m = close_more v s t number count lines may.by.task may.by.at i in
      let sum = ap length m.1 ∙ length-append (into_peer v.props i) m.0 in
      omega (arith, sum) in
      record {
        grown = λ i. let g = c.grown i in let m = more i in omega (arith, g, m);
        beyond = λ u le. beyond_counted v.job v.start v.tasks v.props (props_after v t lines) v.journal e t (proved_by line) more (apart t)
            (length v.tasks) lt c.beyond u (omega (arith, size_is, le));
        each = λ calm. changed_counted v.job v.start v.tasks v.props (props_after v t lines) v.journal e t (proved_by line) more (apart t)
            (c.each (spent_before v.journal e calm)) (λ a is.
            let same : may.by.task ≡ a = same_Some may.by.task a (sym may.by.at ∙ is) in
            subst (λ n. IsCounted (proved_by line a) n (size v.start.props v.job a.key) (size (props_after v t lines) v.job a.key))
            (sym (one_more v.journal e t (eq-eqb t t refl)))
            (counted_proved a (count_by (is_post_on t) v.journal) (size v.start.props v.job a.key) (size v.props v.job a.key)
            (size (props_after v t lines) v.job a.key) line may.by.holder
            (c.each (spent_before v.journal e calm) t a is) (more (peer_of v.job a.key)) (ap (λ (x : Task). x.holder) (sym same) ∙ may.by.held)));
      }

  -- the new tasks of an open verdict
  new_counted : (keys : List Key) → has_spent v ≡ false → (u : ℕ) (a : Task) → slice_get (with_keys v.tasks keys) u ≡ Some a
      → IsCounted a (count_by (is_post_on u) v.journal) (size v.start.props v.job a.key) (size v.props v.job a.key)
  new_counted keys calm u a is = by_place (at-append_cases Task v.tasks (map new_task (filter (λ key. not (has_key v.tasks key)) keys)) u a is)
    where
      made : (ks : List Key) (j : ℕ) → slice_get (map new_task ks) j ≡ Some a → (key : Key) × (a ≡ new_task key)
      made [] j e = cc
      made (k ∷ ks) zero e = (k, sym (same_Some (new_task k) a e))
      made (k ∷ ks) (suc j) e = made ks j e

      none : (h : Holder) → None ≡ Some h → ⊥
      none h e = cc

      not_open : (at seen : ℕ) (asks : List ℕ) → state.Unknown ≡ state.Open at asks seen → ⊥
      not_open at seen asks e = cc

      not_proved : (line : ℕ) → state.Unknown ≡ state.Proved line → ⊥
      not_proved line e = cc

      fresh : (key : Key) (count : ℕ) → count ≡ 0 → IsCounted (new_task key) count (size v.start.props v.job key) (size v.props v.job key)
      fresh key count zero_yet = record {
        grown = c.grown (peer_of v.job key);
        unknown = λ e. zero_yet;
        open_now = λ at seen asks e. absurd (not_open at seen asks e);
        proved = λ line e. absurd (not_proved line e);
        held = λ h e. absurd (none h e);
      }

      by_place : (slice_get v.tasks u ≡ Some a) ⊎ ((j : ℕ) × (u ≡ length v.tasks + j)
          × (slice_get (map new_task (filter (λ key. not (has_key v.tasks key)) keys)) j ≡ Some a))
          → IsCounted a (count_by (is_post_on u) v.journal) (size v.start.props v.job a.key) (size v.props v.job a.key)
      by_place (inl old) = c.each calm u a old
      by_place (inr h) =
          let m = made (filter (λ key. not (has_key v.tasks key)) keys) h.0 h.2 in
          subst (λ (x : Task). IsCounted x (count_by (is_post_on u) v.journal) (size v.start.props v.job x.key) (size v.props v.job x.key)) (sym m.1)
          (fresh m.0 (count_by (is_post_on u) v.journal) (c.beyond u (omega (arith, h.1))))

  open_counted : (t number : ℕ) (m : Interp) (x : ℕ) (lines : List Line) → MayOpen v t number m x → AreCounted (apply v (event.Opened t number m x) lines)
  open_counted t number m x lines may =
      let e : Event = event.Opened t number m x in
      let keys : List Key = raised_keys v t m in
      let tasks : List Task = with_keys v.tasks keys in
      let asks : List ℕ = map (number_of tasks) keys in
      let f : Task → Task = opened_by (length v.journal) asks in
      let lt : t < length v.tasks = slice_get_within v.tasks t may.by.task may.by.at in
      let longer : length tasks ≡ length v.tasks + length (map new_task (filter (λ key. not (has_key v.tasks key)) keys)) =
      length-append v.tasks (map new_task (filter (λ key. not (has_key v.tasks key)) keys)) in
      let size_is : length (change_at f tasks t) ≡ length tasks = length-changed Task f tasks t in
      record {
        grown = c.grown;
        beyond = λ u le. beyond_counted v.job v.start tasks v.props v.props v.journal e t f (no_more v.props) (apart t)
            (length tasks) (omega (arith, lt, longer)) (λ n l. c.beyond n (omega (arith, l, longer))) u (omega (arith, size_is, le));
        each = λ calm. changed_counted v.job v.start tasks v.props v.props v.journal e t f (no_more v.props) (apart t)
            (new_counted keys (spent_before v.journal e calm)) (λ a is.
            let same : may.by.task ≡ a = same_Some may.by.task a
            (sym (at-append Task v.tasks (map new_task (filter (λ key. not (has_key v.tasks key)) keys)) t may.by.task may.by.at) ∙ is) in
            let holds : a.holder ≡ Some may.by.holder = ap (λ (y : Task). y.holder) (sym same) ∙ may.by.held in
            let saw : option_map_or (λ (h : Holder). h.seen) a.holder 0 ≡ may.by.holder.seen = ap (λ o. option_map_or (λ (h : Holder). h.seen) o 0) holds in
            let with_seen : ℕ → Task = λ n. record a { holder = None; state = state.Open (length v.journal) asks n } in
            subst (λ n. IsCounted (with_seen n) (count_by (is_post_on t) (v.journal ++ e ∷ [])) (size v.start.props v.job a.key) (size v.props v.job a.key)) (sym saw)
            (subst (λ n. IsCounted (with_seen may.by.holder.seen) n (size v.start.props v.job a.key) (size v.props v.job a.key))
            (sym (one_more v.journal e t (eq-eqb t t refl)))
            (counted_open a (count_by (is_post_on t) v.journal) (size v.start.props v.job a.key) (size v.props v.job a.key) may.by.holder
            (length v.journal) asks (new_counted keys (spent_before v.journal e calm) t a is) holds)));
      }

counted_step : (v : SessionView) (e : Event) (lines : List Line) → IsSoundView v → AreCounted v → IsAllowed v e lines → AreCounted (apply v e lines)
counted_step v (event.Take t worker number seen) lines s c may = take_counted v s c t worker number seen lines may
counted_step v (event.Closed t number count) lines s c may = close_counted v s c t number count lines may
counted_step v (event.Opened t number m x) lines s c may = open_counted v s c t number m x lines may
counted_step v (event.Spent t number run) lines s c may =
    free_counted v s c (event.Spent t number run) t (slice_get_within v.tasks t may.by.task may.by.at) (apart t)
    (λ calm. absurd (or-last (list_any is_spent v.journal) (sym (list_any-append is_spent v.journal (event.Spent t number run ∷ [])) ∙ calm)))
counted_step v (event.Give t number) lines s c may =
    free_counted v s c (event.Give t number) t (slice_get_within v.tasks t may.task may.at) (λ u o. refl) (λ calm. refl)

begins_counted : (job : Job) (start : Start) → AreCounted (begun job start)
begins_counted job start = record {
  grown = λ i. omega arith;
  beyond = λ u le. refl;
  each = λ calm u a at. subst (λ (x : Task). IsCounted x 0 (size start.props job x.key) (size start.props job x.key)) (only u a at) (record {
    grown = omega arith;
    unknown = λ e. refl;
    open_now = λ n seen asks e. absurd (not_open n seen asks e);
    proved = λ line e. absurd (not_proved line e);
    held = λ h e. absurd (none h e);
  });
}
  where
    only : (u : ℕ) (a : Task) → slice_get (new_task Root ∷ []) u ≡ Some a → new_task Root ≡ a
    only zero a e = same_Some (new_task Root) a e
    only (suc u) a e = cc

    none : (h : Holder) → None ≡ Some h → ⊥
    none h e = cc

    not_open : (at seen : ℕ) (asks : List ℕ) → state.Unknown ≡ state.Open at asks seen → ⊥
    not_open at seen asks e = cc

    not_proved : (line : ℕ) → state.Unknown ≡ state.Proved line → ⊥
    not_proved line e = cc

pub counted : (job : Job) (start : Start) (v : SessionView) → Runs job start v → AreCounted v
counted job start v (opened is) = begins_counted job start
counted job start v (stepped w e lines r may) = counted_step w e lines (sound job start w r) (counted job start w r) may

-- while no spent run was posted, a task has at most one post more than propagations came into its peer since the start
pub posts_are_few : (job : Job) (start : Start) (v : SessionView) → Runs job start v → has_spent v ≡ false
    → (u : ℕ) (a : Task) → slice_get v.tasks u ≡ Some a
    → count_by (is_post_on u) v.journal + length (into_peer v.start.props (peer_of v.job a.key)) ≤ 1 + length (props_for v a)
posts_are_few job start v runs calm u a at =
    counted_bound a (count_by (is_post_on u) v.journal) (size v.start.props v.job a.key) (size v.props v.job a.key)
    ((counted job start v runs).each calm u a at)
