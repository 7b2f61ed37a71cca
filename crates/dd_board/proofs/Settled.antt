-- A posted verdict settles its task, and what is kept of the session stays right.
use Rattle.std.proofs.Common.{◌≡◌, ◌∙◌, ℕ, zero, suc, ◌+◌, ◌-◌, ◌^◌, ◌<◌, Bool, true, false, not, cond, ◌||◌, List, [], ◌∷◌, ◌++◌, map, length, Option, None, Some, ap, ap₂, refl, subst, sym, arith, is_some, count_by, vec_capacity, option_map, length-append}
use Rattle.std.specs.List.{slice_get, list_any, filter}
use Rattle.std.specs.Option.{option_map_or}
use Rattle.std.proofs.lemmas.Option.{same_Some, slice_get-map, slice_get_within}
use Rattle.std.proofs.lemmas.List.{length-map}
use Rattle.std.proofs.lemmas.List.Sums.{sum_by-append}
use Rattle.dd_concept.specs.declared.concept.Concept.{Concept}
use Rattle.dd_interp.specs.declared.interp.Interp.{Interp}
use Rattle.dd_task.specs.declared.job.Key.{Key}
use Rattle.dd_task.specs.declared.line.Line.{Line}
use Rattle.dd_task.specs.declared.line.Prop.{Prop}
use Rattle.dd_task.specs.Demands.{raised_by}
use Rattle.dd_task.specs.Goals.{peer_of}
use Rattle.dd_task.specs.Keys.{is_same_key}
use Rattle.dd_task.proofs.Places.{at-append}
use Rattle.dd_board.specs.declared.event.Event.{Event}
use Rattle.dd_board.specs.declared.event.Event.TheVariants as event
use Rattle.dd_board.specs.declared.event.TaskState.{TaskState}
use Rattle.dd_board.specs.declared.event.TaskState.TheVariants as state
use Rattle.dd_board.specs.declared.session.Slot.{Slot}
use Rattle.dd_board.specs.declared.session.Session.{Session}
use Rattle.dd_board.specs.View.{Holder, Task, SessionView, change_at}
use Rattle.dd_board.specs.Moved.{moved_line}
use Rattle.dd_board.specs.Standing.{is_post, is_spent}
use Rattle.dd_board.specs.Steps.{new_task, proved_by, opened_by, has_key, with_keys, number_of, keys_for, raised_keys, last_label, with_prop, props_after, apply}
use Rattle.dd_board.specs.Allowed.{IsHeld, MayClose, MayOpen}
use Rattle.dd_board.specs.Legal.{IsLegal}
use Rattle.dd_board.specs.Draws.{IsKeyAt}
use Rattle.dd_board.specs.Sessions.{task_of, session_view, is_held, HasFlags, IsKept}
use Rattle.dd_board.specs.Flags.{IsAnew}
use Rattle.dd_board.specs.Settling.{stated, with_state, IsPosted, new_slot, has_slot, with_slots, place_in, numbers_in}
use Rattle.dd_board.proofs.Changes.{length-changed}
use Rattle.dd_board.proofs.Slots.{one, item-at, count-changed, map-changed}
use Rattle.dd_board.proofs.Alike.{legal-step}
use Rattle.dd_board.proofs.Backs.{length-more, posts-more, spent-more, or-no, held-slot}
use Rattle.dd_board.proofs.Marked.{view-rest, length-same}
use Rattle.dd_board.proofs.Sitting.{holder-some}

-- how many are held is told by the tasks
abbrev pub step : Bool → ℕ
step b = cond b 1 0

held-tasks : (xs : List Slot) → count_by is_held xs ≡ count_by (λ (x : Task). is_some x.holder) (map task_of xs)
held-tasks [] = refl
held-tasks (x ∷ xs) =
    let left = sum_by-append (λ y. cond (is_held y) 1 0) (x ∷ []) xs in
    let right = sum_by-append (λ (y : Task). cond (is_some y.holder) 1 0) (task_of x ∷ []) (map task_of xs) in
    let same = ap step (holder-some x.holder) in
    let rest = held-tasks xs in
    left ∙ (ap₂ (λ (a b : ℕ). (0 + a) + b) (sym same) rest ∙ sym right)

pub held-same : (xs ys : List Slot) → map task_of xs ≡ map task_of ys → count_by is_held xs ≡ count_by is_held ys
held-same xs ys e = held-tasks xs ∙ (ap (count_by (λ (x : Task). is_some x.holder)) e ∙ sym (held-tasks ys))

-- ---- the common end

pub posted-by : (s mid s' : Session) (t : ℕ) (st : TaskState) (e : Event) → t < length s.tasks → ((slot : Slot) → slice_get s.tasks t ≡ Some slot → is_held slot ≡ true)
    → mid.tasks ≡ change_at (with_state st) s.tasks t → mid.journal.items ≡ s.journal.items ++ e ∷ [] → vec_capacity mid.journal ≡ vec_capacity s.journal
    → mid.held + 1 ≡ s.held → mid.posts ≡ s.posts + 1 → mid.has_spent ≡ s.has_spent
    → session_view mid ≡ record (session_view s) { tasks = map task_of mid.tasks; journal = mid.journal.items }
    → IsAnew mid s' → IsPosted s s' t st e
posted-by s mid s' t st e low out tasks items capacity count counted spent mid_is anew =
    let slot = item-at s.tasks t low in
    let rest = ap (λ (x : Session). x.held) anew.rest in
    let view : session_view s' ≡ session_view mid = view-rest s' mid anew.rest anew.same in
    record {
      view = view ∙ (mid_is ∙ ap₂ (λ (ts : List Task) (j : List Event). record (session_view s) { tasks = ts; journal = j })
          (ap (map task_of) tasks ∙ map-changed task_of (with_state st) (stated st) (λ x. refl) s.tasks t) items);
      flags = λ u x at_u. subst (λ v. HasFlags v u x) (sym view) (anew.flags u x at_u);
      held = (omega (arith, rest, count));
      count = (let c = count-changed is_held (with_state st) s.tasks t slot.0 slot.1 in let was = ap one (out slot.0 slot.1) in
          let same = held-same s'.tasks mid.tasks anew.same in let m = ap (count_by is_held) tasks in omega (arith, c, was, same, m));
      posts_more = ap (λ (x : Session). x.posts) anew.rest ∙ counted;
      spent = ap (λ (x : Session). x.has_spent) anew.rest ∙ spent;
      capacity = ap (λ (x : Session). vec_capacity x.journal) anew.rest ∙ capacity;
      tasks_same = length-same mid.tasks s'.tasks anew.same ∙ (ap length tasks ∙ length-changed Slot (with_state st) s.tasks t);
    }

-- what is kept of the session, where the session in between is kept but for its lines, propagations and tasks
pub posted-kept : (s mid s' : Session) (t : ℕ) (st : TaskState) (e : Event) → IsKept s → IsPosted mid s' t st e → is_post e ≡ true → is_spent e ≡ false
    → mid.journal.items ≡ s.journal.items → vec_capacity mid.journal ≡ vec_capacity s.journal → mid.held ≡ s.held → mid.posts ≡ s.posts → mid.has_spent ≡ s.has_spent
    → count_by is_held mid.tasks ≡ count_by is_held s.tasks → length mid.tasks < 2 ^ 32 → length s'.lines < 2 ^ 32 → IsLegal (session_view s') → IsKept s'
posted-kept s mid s' t st e kept posted a_post no_spent items capacity held counted spent holds few_tasks few_lines legal =
    let journal : s'.journal.items ≡ s.journal.items ++ e ∷ [] = ap (λ (v : SessionView). v.journal) posted.view ∙ ap (λ j. j ++ e ∷ []) items in
    record {
      legal = legal;
      flags = posted.flags;
      held = (let h = posted.held in let c = posted.count in let k = kept.held in omega (arith, h, c, k, held, holds));
      posts_counted = (let p = posts-more s.journal.items s'.journal.items e journal in let k = kept.posts_counted in let m = posted.posts_more in
          let one_more = ap step a_post in omega (arith, p, k, m, one_more, counted));
      spent = posted.spent ∙ (spent ∙ (kept.spent ∙ sym (spent-more s.journal.items s'.journal.items e journal
          ∙ (ap (λ b. list_any is_spent s.journal.items || (b || false)) no_spent ∙ or-no (list_any is_spent s.journal.items)))));
      room = (let r = kept.room in let l = length-more s.journal.items s'.journal.items e journal in let h = posted.held in let c = posted.capacity in omega (arith, r, l, h, c, held, capacity));
      numbered = (let r = kept.numbered in let l = length-more s.journal.items s'.journal.items e journal in let h = posted.held in omega (arith, r, l, h, held));
      few_tasks = (let l = posted.tasks_same in omega (arith, few_tasks, l));
      few_lines = few_lines;
    }

-- ---- a closed verdict

last-label-moved : (view : List Prop) (count : ℕ) (own : List Line) → last_label (map (moved_line view count) own) ≡ last_label own
last-label-moved view count own =
    ap (λ n. option_map_or (λ (x : Line). x.label) (slice_get (map (moved_line view count) own) (n - 1)) []) (length-map own (moved_line view count))
    ∙ (ap (λ o. option_map_or (λ (x : Line). x.label) o []) (slice_get-map (moved_line view count) own (length own - 1)) ∙ label-of (slice_get own (length own - 1)))
  where
    label-of : (o : Option Line) → option_map_or (λ (x : Line). x.label) (option_map (moved_line view count) o) [] ≡ option_map_or (λ (x : Line). x.label) o []
    label-of None = refl
    label-of (Some x) = refl

-- the session after the lines and the propagation were added, and the task was settled
pub close-after : (s s' : Session) (t number line : ℕ) (key : Key) (view : List Prop) (own : List Line) (lines : List Line) (props : List (List Prop))
    → IsKeyAt (session_view s) t key
    → lines ≡ s.lines ++ map (moved_line view (length s.lines)) own
    → props ≡ with_prop s.job.pinned (last_label own) (length s.lines + length own - 1) s.props key
    → line ≡ length lines - 1
    → IsPosted (record s { lines = lines; props = props }) s' t (state.Proved line) (event.Closed t number (length own))
    → session_view s' ≡ apply (session_view s) (event.Closed t number (length own)) (map (moved_line view (length s.lines)) own)
close-after s s' t number line key view own lines props key_at lines_are props_are line_is posted =
    let moved = map (moved_line view (length s.lines)) own in
    let count = length-map own (moved_line view (length s.lines)) in
    let place : line ≡ length s.lines + length moved - 1 = line_is ∙ ap (λ n. n - 1) (ap length lines_are ∙ length-append s.lines moved) in
    let props_now : props ≡ props_after (session_view s) t moved =
    props_are ∙ (ap₂ (λ (l : List Concept) (n : ℕ). with_prop s.job.pinned l (length s.lines + n - 1) s.props key) (sym (last-label-moved view (length s.lines) own)) (sym count)
    ∙ (ap (with_prop s.job.pinned (last_label moved) (length s.lines + length moved - 1) s.props) (sym key_at.same)
    ∙ ap (λ o. option_map_or (λ (x : Task). with_prop s.job.pinned (last_label moved) (length s.lines + length moved - 1) s.props x.key) o s.props) (sym key_at.at))) in
    posted.view
    ∙ (ap (λ n. record (session_view s) { lines = lines; props = props; tasks = change_at (stated (state.Proved n)) (map task_of s.tasks) t; journal = s.journal.items ++ event.Closed t number (length own) ∷ [] }) place
    ∙ ap₂ (λ (ls : List Line) (ps : List (List Prop)). record (session_view s) { lines = ls; props = ps; tasks = change_at (proved_by (length s.lines + length moved - 1)) (map task_of s.tasks) t; journal = s.journal.items ++ event.Closed t number (length own) ∷ [] }) lines_are props_now)

-- ---- an open verdict

slot-keys : (slots : List Slot) (key : Key) → has_slot slots key ≡ has_key (map task_of slots) key
slot-keys [] key = refl
slot-keys (x ∷ slots) key = ap (λ b. is_same_key x.key key || b) (slot-keys slots key)

filter-same : (p q : Key → Bool) → ((k : Key) → p k ≡ q k) → (ks : List Key) → filter p ks ≡ filter q ks
filter-same p q same [] = refl
filter-same p q same (k ∷ ks) = ap₂ (λ (b : Bool) (xs : List Key). cond b (k ∷ xs) xs) (same k) (filter-same p q same ks)

map-append : {A B : Type 0} (f : A → B) (xs ys : List A) → map f (xs ++ ys) ≡ map f xs ++ map f ys
map-append f [] ys = refl
map-append f (x ∷ xs) ys = ap (λ zs. f x ∷ zs) (map-append f xs ys)

map-new : (ks : List Key) → map task_of (map new_slot ks) ≡ map new_task ks
map-new [] = refl
map-new (k ∷ ks) = ap (λ xs. new_task k ∷ xs) (map-new ks)

pub slots-tasks : (slots : List Slot) (keys : List Key) → map task_of (with_slots slots keys) ≡ with_keys (map task_of slots) keys
slots-tasks slots keys =
    map-append task_of slots (map new_slot (filter (λ key. not (has_slot slots key)) keys))
    ∙ ap (λ xs. map task_of slots ++ xs) (map-new (filter (λ key. not (has_slot slots key)) keys)
    ∙ ap (map new_task) (filter-same (λ key. not (has_slot slots key)) (λ key. not (has_key (map task_of slots) key)) (λ key. ap not (slot-keys slots key)) keys))

place-same : (slots : List Slot) (key : Key) → place_in slots key ≡ number_of (map task_of slots) key
place-same [] key = refl
place-same (x ∷ slots) key = ap (λ n. cond (not (is_same_key x.key key)) (1 + n) 0) (place-same slots key)

map-same : {A B : Type 0} (f g : A → B) → ((x : A) → f x ≡ g x) → (xs : List A) → map f xs ≡ map g xs
map-same f g same [] = refl
map-same {B = B} f g same (x ∷ xs) = ap₂ (λ (y : B) (ys : List B). y ∷ ys) (same x) (map-same f g same xs)

pub numbers-same : (slots : List Slot) (keys : List Key)
    → map (place_in (with_slots slots keys)) keys ≡ map (number_of (with_keys (map task_of slots) keys)) keys
numbers-same slots keys = map-same (place_in (with_slots slots keys)) (number_of (with_keys (map task_of slots) keys)) (λ key. place-same (with_slots slots keys) key ∙ ap (λ ts. number_of ts key) (slots-tasks slots keys)) keys

none-new : (ks : List Key) → count_by is_held (map new_slot ks) ≡ 0
none-new [] = refl
none-new (k ∷ ks) = let c = sum_by-append (λ y. cond (is_held y) 1 0) (new_slot k ∷ []) (map new_slot ks) in let r = none-new ks in omega (arith, c, r)

pub slots-held : (slots : List Slot) (keys : List Key) → count_by is_held (with_slots slots keys) ≡ count_by is_held slots
slots-held slots keys =
    let ks = filter (λ key. not (has_slot slots key)) keys in
    let c = sum_by-append (λ y. cond (is_held y) 1 0) slots (map new_slot ks) in
    let n = none-new ks in
    omega (arith, c, n)

pub slots-at : (slots : List Slot) (keys : List Key) (t : ℕ) (slot : Slot) → slice_get slots t ≡ Some slot → slice_get (with_slots slots keys) t ≡ Some slot
slots-at slots keys t slot at = at-append Slot slots (map new_slot (filter (λ key. not (has_slot slots key)) keys)) t slot at

-- changes that agree at the place
change-same : (f g : Task → Task) (xs : List Task) (n : ℕ) (x : Task) → slice_get xs n ≡ Some x → f x ≡ g x → change_at f xs n ≡ change_at g xs n
change-same f g [] n x at e = refl
change-same f g (y ∷ xs) zero x at e = ap (λ z. z ∷ xs) (ap f (same_Some y x at) ∙ (e ∙ ap g (sym (same_Some y x at))))
change-same f g (y ∷ xs) (suc n) x at e = ap (λ zs. y ∷ zs) (change-same f g xs n x at e)

pub open-after : (s s' : Session) (t number seen i : ℕ) (m : Interp) (x at : ℕ) (raised : List ℕ) (held : IsHeld (session_view s) t number)
    → held.holder.seen ≡ seen → peer_of s.job held.task.key ≡ i → at ≡ length s.journal.items → raised ≡ numbers_in s i m
    → IsPosted (record s { tasks = with_slots s.tasks (raised_by s.job.pinned i m) }) s' t (state.Open at raised seen) (event.Opened t number m x)
    → session_view s' ≡ apply (session_view s) (event.Opened t number m x) []
open-after s s' t number seen i m x at raised held saw peer at_is raised_is posted =
    let keys = raised_by s.job.pinned i m in
    let v = session_view s in
    let keys_are : raised_keys v t m ≡ keys = ap (λ o. option_map_or (keys_for v m) o []) held.at ∙ ap (λ j. raised_by s.job.pinned j m) peer in
    let tasks_are : map task_of (with_slots s.tasks keys) ≡ with_keys v.tasks keys = slots-tasks s.tasks keys in
    let numbers : raised ≡ map (number_of (with_keys v.tasks keys)) keys = raised_is ∙ numbers-same s.tasks keys in
    let there : slice_get (with_keys v.tasks keys) t ≡ Some held.task = at-append Task v.tasks (map new_task (filter (λ key. not (has_key v.tasks key)) keys)) t held.task held.at in
    let state_is : stated (state.Open at raised seen) held.task ≡ opened_by (length s.journal.items) (map (number_of (with_keys v.tasks keys)) keys) held.task =
    ap (λ n. record held.task { holder = None; state = state.Open n raised seen }) at_is
    ∙ ap₂ (λ (r : List ℕ) (n : ℕ). record held.task { holder = None; state = state.Open (length s.journal.items) r n }) numbers
    (sym (ap (λ o. option_map_or (λ (h : Holder). h.seen) o 0) held.held ∙ saw)) in
    posted.view
    ∙ (ap (λ ts. record v { tasks = change_at (stated (state.Open at raised seen)) ts t; journal = s.journal.items ++ event.Opened t number m x ∷ [] }) tasks_are
    ∙ (ap (λ ts. record v { tasks = ts; journal = s.journal.items ++ event.Opened t number m x ∷ [] })
    (change-same (stated (state.Open at raised seen)) (opened_by (length s.journal.items) (map (number_of (with_keys v.tasks keys)) keys)) (with_keys v.tasks keys) t held.task there state_is)
    ∙ ap (λ ks. record v {
      tasks = change_at (opened_by (length s.journal.items) (map (number_of (with_keys v.tasks ks)) ks)) (with_keys v.tasks ks) t;
      journal = s.journal.items ++ event.Opened t number m x ∷ [];
    }) (sym keys_are)))

-- ---- what the calls want

-- the task that is held
pub out-slot : (s : Session) (t number : ℕ) → IsHeld (session_view s) t number → (slot : Slot) → slice_get s.tasks t ≡ Some slot → is_held slot ≡ true
out-slot s t number h slot at =
    let held = held-slot s t number h in
    subst (λ (x : Slot). is_held x ≡ true) (same_Some held.0 slot (sym held.1 ∙ at)) held.2

-- the session with the new tasks has the same task in its place
pub out-later : (s mid : Session) (t number : ℕ) (keys : List Key) → IsHeld (session_view s) t number → mid.tasks ≡ with_slots s.tasks keys
    → (slot : Slot) → slice_get mid.tasks t ≡ Some slot → is_held slot ≡ true
out-later s mid t number keys h tasks slot at =
    let held = held-slot s t number h in
    let there = slots-at s.tasks keys t held.0 held.1 in
    subst (λ (x : Slot). is_held x ≡ true) (same_Some held.0 slot (sym there ∙ (ap (λ xs. slice_get xs t) (sym tasks) ∙ at))) held.2

pub low-later : (s mid : Session) (t number : ℕ) (keys : List Key) → IsHeld (session_view s) t number → mid.tasks ≡ with_slots s.tasks keys → t < length mid.tasks
low-later s mid t number keys h tasks =
    let held = held-slot s t number h in
    let low = slice_get_within (with_slots s.tasks keys) t held.0 (slots-at s.tasks keys t held.0 held.1) in
    let e = ap length tasks in
    omega (arith, low, e)

-- ---- the whole of both

pub closed-kept : (s mid s' : Session) (t number line count : ℕ) (lines moved : List Line) → IsKept s → IsPosted mid s' t (state.Proved line) (event.Closed t number count)
    → mid.tasks ≡ s.tasks → mid.journal.items ≡ s.journal.items → vec_capacity mid.journal ≡ vec_capacity s.journal → mid.held ≡ s.held → mid.posts ≡ s.posts → mid.has_spent ≡ s.has_spent
    → length mid.lines < 2 ^ 32 → MayClose (session_view s) t number count moved
    → session_view s' ≡ apply (session_view s) (event.Closed t number count) moved → IsKept s'
closed-kept s mid s' t number line count lines moved kept posted tasks items capacity held counted spent few may after =
    posted-kept s mid s' t (state.Proved line) (event.Closed t number count) kept posted refl refl items capacity held counted spent (ap (count_by is_held) tasks)
    (let f = kept.few_tasks in let l = ap length tasks in omega (arith, f, l))
    (let l = ap (λ (v : SessionView). length v.lines) posted.view in omega (arith, few, l))
    (subst IsLegal (sym after) (legal-step (session_view s) (event.Closed t number count) moved kept.legal may))

pub open-kept : (s mid s' : Session) (t number seen at x : ℕ) (m : Interp) (raised : List ℕ) (keys : List Key) → IsKept s
    → IsPosted mid s' t (state.Open at raised seen) (event.Opened t number m x) → mid ≡ record s { tasks = with_slots s.tasks keys } → length mid.tasks < 2 ^ 32
    → MayOpen (session_view s) t number m x → session_view s' ≡ apply (session_view s) (event.Opened t number m x) [] → IsKept s'
open-kept s mid s' t number seen at x m raised keys kept posted is few may after =
    posted-kept s mid s' t (state.Open at raised seen) (event.Opened t number m x) kept posted refl refl (ap (λ (y : Session). y.journal.items) is)
    (ap (λ (y : Session). vec_capacity y.journal) is) (ap (λ (y : Session). y.held) is) (ap (λ (y : Session). y.posts) is) (ap (λ (y : Session). y.has_spent) is)
    (ap (λ (y : Session). count_by is_held y.tasks) is ∙ slots-held s.tasks keys) few
    (let l = ap (λ (v : SessionView). length v.lines) posted.view in let e = ap (λ (y : Session). length y.lines) is in let f = kept.few_lines in omega (arith, f, l, e))
    (subst IsLegal (sym after) (legal-step (session_view s) (event.Opened t number m x) [] kept.legal may))
