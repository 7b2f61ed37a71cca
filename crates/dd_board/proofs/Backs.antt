-- A task that is given back, with or without a spent run.
use Rattle.std.proofs.Common.{◌≡◌, ◌∙◌, ℕ, ◌+◌, ◌<◌, ◌≤◌, Bool, true, false, cond, ◌||◌, List, [], ◌∷◌, ◌++◌, map, length, None, Some, ap, refl, subst, sym, arith, is_some, count_by, vec_capacity, length-append}
use Rattle.std.specs.List.{slice_get, list_any}
use Rattle.std.proofs.lemmas.Option.{slice_get_within}
use Rattle.std.proofs.lemmas.List.Folds.{list_any-append}
use Rattle.std.proofs.lemmas.List.Sums.{sum_by-append, count_by-le-length}
use Rattle.dd_board.specs.declared.event.Event.{Event}
use Rattle.dd_board.specs.declared.event.Event.TheVariants as event
use Rattle.dd_board.specs.declared.session.Slot.{Slot}
use Rattle.dd_board.specs.declared.session.Session.{Session}
use Rattle.dd_board.specs.View.{Task, change_at}
use Rattle.dd_board.specs.Standing.{is_post, is_spent, posts, has_spent}
use Rattle.dd_board.specs.Steps.{given_back, apply}
use Rattle.dd_task.specs.declared.verdict.SpentRun.{SpentRun}
use Rattle.dd_board.specs.Allowed.{IsHeld, MaySpend}
use Rattle.dd_board.specs.Legal.{IsLegal}
use Rattle.dd_board.specs.Sessions.{task_of, session_view, is_held, with_holder, IsKept}
use Rattle.dd_board.proofs.Changes.{length-changed}
use Rattle.dd_board.proofs.Slots.{one, count-changed, map-changed}
use Rattle.dd_board.proofs.Alike.{flags-kept, legal-step}
use Rattle.dd_board.proofs.Sitting.{slot-from, holder-some}

pub length-more : (journal more : List Event) (e : Event) → more ≡ journal ++ e ∷ [] → length more ≡ length journal + 1
length-more journal more e is = ap length is ∙ length-append journal (e ∷ [])

-- the slot of a task that is held
pub held-slot : (s : Session) (t number : ℕ) → IsHeld (session_view s) t number → (slot : Slot) × (slice_get s.tasks t ≡ Some slot) × (is_held slot ≡ true)
held-slot s t number h =
    let from = slot-from s t h.task h.at in
    (from.0, from.1, sym (holder-some from.0.holder) ∙ (ap (λ (x : Task). is_some x.holder) (sym from.2) ∙ ap is_some h.held))

module _ (s : Session) (kept : IsKept s) (t number : ℕ) (held : IsHeld (session_view s) t number) where
  slot : (x : Slot) × (slice_get s.tasks t ≡ Some x) × (is_held x ≡ true)
  slot = held-slot s t number held

  pub fewer-held : count_by is_held (change_at (with_holder None) s.tasks t) + 1 ≡ count_by is_held s.tasks
  fewer-held =
      let count = count-changed is_held (with_holder None) s.tasks t slot.0 slot.1 in
      let was = ap one slot.2 in
      omega (arith, count, was)

  pub some-held : 1 ≤ s.held
  some-held = let f = fewer-held in let k = kept.held in omega (arith, f, k)

  pub low-task : t < length s.tasks
  low-task = slice_get_within s.tasks t slot.0 slot.1

  pub has-room : length s.journal.items < vec_capacity s.journal
  has-room = let h = some-held in let r = kept.room in omega (arith, h, r)

  -- the event and what it does, where nothing but the holder is changed
  module _ (e : Event) (s' : Session) (job : s'.job ≡ s.job) (props : s'.props ≡ s.props) (lines : s'.lines ≡ s.lines) (next : s'.next ≡ s.next)
      (tasks : s'.tasks ≡ change_at (with_holder None) s.tasks t) (items : s'.journal.items ≡ s.journal.items ++ e ∷ [])
      (capacity : vec_capacity s'.journal ≡ vec_capacity s.journal) (count : s'.held + 1 ≡ s.held) where
    pub tasks-given : map task_of s'.tasks ≡ change_at given_back (map task_of s.tasks) t
    tasks-given = ap (map task_of) tasks ∙ map-changed task_of (with_holder None) given_back (λ x. refl) s.tasks t

    pub given-kept : IsLegal (session_view s') → s'.posts ≡ posts (session_view s') → s'.has_spent ≡ has_spent (session_view s') → IsKept s'
    given-kept legal counted spent = record {
      legal = legal;
      flags = flags-kept s s' (with_holder None) t tasks job props (λ x. refl) (λ x. refl) (λ x. refl) (λ x. refl) kept.flags;
      held = (let f = fewer-held in let k = kept.held in let c = ap (count_by is_held) tasks in omega (arith, f, k, c, count));
      posts_counted = counted;
      spent = spent;
      room = (let r = kept.room in let l = length-more s.journal.items s'.journal.items e items in omega (arith, r, l, capacity, count));
      numbered = (let r = kept.numbered in let l = length-more s.journal.items s'.journal.items e items in omega (arith, r, l, count));
      few_tasks = (let r = kept.few_tasks in let l = ap length tasks ∙ length-changed Slot (with_holder None) s.tasks t in omega (arith, r, l));
      few_lines = (let r = kept.few_lines in let l = ap length lines in omega (arith, r, l));
    }

-- ---- counts of events

pub posts-more : (journal more : List Event) (e : Event) → more ≡ journal ++ e ∷ [] → count_by is_post more ≡ count_by is_post journal + cond (is_post e) 1 0
posts-more journal more e is = ap (count_by is_post) is ∙ (sum_by-append (λ x. cond (is_post x) 1 0) journal (e ∷ [])
    ∙ ap (λ n. count_by is_post journal + n) (let z : 0 + cond (is_post e) 1 0 ≡ cond (is_post e) 1 0 = omega arith in z))

pub spent-more : (journal more : List Event) (e : Event) → more ≡ journal ++ e ∷ [] → list_any is_spent more ≡ (list_any is_spent journal || (is_spent e || false))
spent-more journal more e is = ap (list_any is_spent) is ∙ list_any-append is_spent journal (e ∷ [])

pub or-no : (a : Bool) → (a || (false || false)) ≡ a
or-no true = refl
or-no false = refl

pub or-so : (a : Bool) → (a || (true || false)) ≡ true
or-so true = refl
or-so false = refl

-- ---- a Give

module _ (s : Session) (kept : IsKept s) (t number : ℕ) (held : IsHeld (session_view s) t number) (s' : Session) (job : s'.job ≡ s.job)
    (props : s'.props ≡ s.props) (lines : s'.lines ≡ s.lines) (next : s'.next ≡ s.next)
    (tasks : s'.tasks ≡ change_at (with_holder None) s.tasks t) (items : s'.journal.items ≡ s.journal.items ++ event.Give t number ∷ [])
    (capacity : vec_capacity s'.journal ≡ vec_capacity s.journal) (count : s'.held + 1 ≡ s.held) where
  pub give-kept : session_view s' ≡ apply (session_view s) (event.Give t number) [] → s'.posts ≡ s.posts → s'.has_spent ≡ s.has_spent → IsKept s'
  give-kept after counted spent = given-kept s kept t number held (event.Give t number) s' job props lines next tasks items capacity count
      (subst IsLegal (sym after) (legal-step (session_view s) (event.Give t number) [] kept.legal held))
      (let p = posts-more s.journal.items s'.journal.items (event.Give t number) items in let k = kept.posts_counted in omega (arith, p, k, counted))
      (spent ∙ (kept.spent ∙ sym (spent-more s.journal.items s'.journal.items (event.Give t number) items ∙ or-no (list_any is_spent s.journal.items))))

-- ---- a spent run

module _ (s : Session) (kept : IsKept s) (t number : ℕ) (run : SpentRun) (may : MaySpend (session_view s) t number run) (s' : Session) (job : s'.job ≡ s.job)
    (props : s'.props ≡ s.props) (lines : s'.lines ≡ s.lines) (next : s'.next ≡ s.next)
    (tasks : s'.tasks ≡ change_at (with_holder None) s.tasks t) (items : s'.journal.items ≡ s.journal.items ++ event.Spent t number run ∷ [])
    (capacity : vec_capacity s'.journal ≡ vec_capacity s.journal) (count : s'.held + 1 ≡ s.held) where
  pub spend-kept : session_view s' ≡ apply (session_view s) (event.Spent t number run) [] → s'.posts ≡ s.posts + 1 → s'.has_spent ≡ true → IsKept s'
  spend-kept after counted spent = given-kept s kept t number may.by (event.Spent t number run) s' job props lines next tasks items capacity count
      (subst IsLegal (sym after) (legal-step (session_view s) (event.Spent t number run) [] kept.legal may))
      (let p = posts-more s.journal.items s'.journal.items (event.Spent t number run) items in let k = kept.posts_counted in omega (arith, p, k, counted))
      (spent ∙ sym (spent-more s.journal.items s'.journal.items (event.Spent t number run) items ∙ or-so (list_any is_spent s.journal.items)))

-- the number of posts of a session is a u64 with one more
pub posts-low : (s : Session) → IsKept s → s.posts < 4294967296
posts-low s kept = let p = kept.posts_counted in let c = count_by-le-length is_post s.journal.items in let n = kept.numbered in omega (arith, p, c, n)
