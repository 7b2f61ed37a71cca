-- A task that is taken.
use Rattle.std.proofs.Common.{◌≡◌, ◌∙◌, ℕ, ◌+◌, ◌≤◌, Bool, true, false, not, [], ◌∷◌, ◌++◌, length, Some, ap, refl, subst, sym, arith, is_some, count_by, vec_capacity}
use Rattle.std.specs.List.{slice_get, list_any}
use Rattle.std.proofs.lemmas.Bool.{and_parts, false≢true}
use Rattle.dd_board.specs.declared.event.Event.TheVariants as event
use Rattle.dd_board.specs.declared.session.Holding.{Holding}
use Rattle.dd_board.specs.declared.session.Slot.{Slot}
use Rattle.dd_board.specs.declared.session.Session.{Session}
use Rattle.dd_board.specs.View.{Task, SessionView, props_for, change_at}
use Rattle.dd_board.specs.Wanted.{is_open_due}
use Rattle.dd_board.specs.Standing.{IsGoing, posts, has_spent, is_spent}
use Rattle.dd_board.specs.Steps.{apply}
use Rattle.dd_board.specs.Allowed.{MayTake}
use Rattle.dd_board.specs.Legal.{IsLegal}
use Rattle.dd_board.specs.Sessions.{session_view, is_held, with_holder, HasFlags, IsKept}
use Rattle.dd_board.specs.Stands.{IsNext}
use Rattle.dd_board.specs.Draws.{MayHold}
use Rattle.dd_board.proofs.Changes.{length-changed}
use Rattle.dd_board.proofs.Slots.{one, count-changed}
use Rattle.dd_board.proofs.Alike.{flags-kept, legal-step}
use Rattle.dd_board.proofs.Backs.{length-more, posts-more, spent-more, or-no}
use Rattle.dd_board.proofs.Sitting.{slot-from, holder-some}

-- more room alone
pub roomier : (s s' : Session) → IsKept s → session_view s' ≡ session_view s → s'.tasks ≡ s.tasks → s'.held ≡ s.held → s'.posts ≡ s.posts → s'.has_spent ≡ s.has_spent
    → s'.lines ≡ s.lines → s'.journal.items ≡ s.journal.items → vec_capacity s.journal ≤ vec_capacity s'.journal → IsKept s'
roomier s s' kept view tasks held counted spent lines items room = record {
  legal = subst IsLegal (sym view) kept.legal;
  flags = λ t slot at. subst (λ v. HasFlags v t slot) (sym view) (kept.flags t slot (ap (λ xs. slice_get xs t) (sym tasks) ∙ at));
  held = held ∙ (kept.held ∙ ap (count_by is_held) (sym tasks));
  posts_counted = counted ∙ (kept.posts_counted ∙ ap posts (sym view));
  spent = spent ∙ (kept.spent ∙ ap has_spent (sym view));
  room = (let r = kept.room in let l = ap length items in omega (arith, r, l, held, room));
  numbered = (let r = kept.numbered in let l = ap length items in omega (arith, r, l, held));
  few_tasks = (let r = kept.few_tasks in let l = ap length tasks in omega (arith, r, l));
  few_lines = (let r = kept.few_lines in let l = ap length lines in omega (arith, r, l));
}

pub may-take : (v : SessionView) (t seen : ℕ) → IsGoing v → (next : IsNext v t) → seen ≡ length (props_for v next.task) → MayTake v t v.next seen
may-take v t seen going next sees = record {
  task = next.task;
  at = next.at;
  going = going;
  due = next.due;
  wanted = next.wanted;
  drawn = refl;
  sees = sees;
}

module _ (s : Session) (kept : IsKept s) (t : ℕ) (next : IsNext (session_view s) t) where
  not-held : (slot : Slot) × (slice_get s.tasks t ≡ Some slot) × (is_held slot ≡ false)
  not-held =
      let from = slot-from s t next.task next.at in
      let free = and_parts (not (is_some next.task.holder)) (is_open_due (session_view s) (props_for (session_view s) next.task) next.task.state) next.due in
      (from.0, from.1, sym (holder-some from.0.holder) ∙ (ap (λ (x : Task). is_some x.holder) (sym from.2) ∙ no-not (is_some next.task.holder) free.0))
    where
      no-not : (b : Bool) → not b ≡ true → b ≡ false
      no-not true e = absurd (false≢true e)
      no-not false e = refl

  pub one-held : (h : Holding) → count_by is_held (change_at (with_holder (Some h)) s.tasks t) ≡ count_by is_held s.tasks + 1
  one-held h =
      let count = count-changed is_held (with_holder (Some h)) s.tasks t not-held.0 not-held.1 in
      let was = ap one not-held.2 in
      omega (arith, count, was)

  module _ (room : MayHold s) (going : IsGoing (session_view s)) (worker seen : ℕ) (sees : seen ≡ length (props_for (session_view s) next.task)) (h : Holding)
      (s' : Session) (job : s'.job ≡ s.job) (props : s'.props ≡ s.props) (lines : s'.lines ≡ s.lines)
      (tasks : s'.tasks ≡ change_at (with_holder (Some h)) s.tasks t) (items : s'.journal.items ≡ s.journal.items ++ event.Take t worker s.next seen ∷ [])
      (capacity : vec_capacity s'.journal ≡ vec_capacity s.journal) (count : s'.held ≡ s.held + 1) where
    pub hold-kept : session_view s' ≡ apply (session_view s) (event.Take t worker s.next seen) [] → s'.posts ≡ s.posts → s'.has_spent ≡ s.has_spent → IsKept s'
    hold-kept after counted spent = record {
      legal = subst IsLegal (sym after) (legal-step (session_view s) (event.Take t worker s.next seen) [] kept.legal (may-take (session_view s) t seen going next sees));
      flags = flags-kept s s' (with_holder (Some h)) t tasks job props (λ x. refl) (λ x. refl) (λ x. refl) (λ x. refl) kept.flags;
      held = (let f = one-held h in let k = kept.held in let c = ap (count_by is_held) tasks in omega (arith, f, k, c, count));
      posts_counted = (let p = posts-more s.journal.items s'.journal.items (event.Take t worker s.next seen) items in let k = kept.posts_counted in omega (arith, p, k, counted));
      spent = spent ∙ (kept.spent ∙ sym (spent-more s.journal.items s'.journal.items (event.Take t worker s.next seen) items ∙ or-no (list_any is_spent s.journal.items)));
      room = (let r = room.room in let l = length-more s.journal.items s'.journal.items (event.Take t worker s.next seen) items in omega (arith, r, l, capacity, count));
      numbered = (let r = room.numbered in let l = length-more s.journal.items s'.journal.items (event.Take t worker s.next seen) items in omega (arith, r, l, count));
      few_tasks = (let r = kept.few_tasks in let l = ap length tasks ∙ length-changed Slot (with_holder (Some h)) s.tasks t in omega (arith, r, l));
      few_lines = (let r = kept.few_lines in let l = ap length lines in omega (arith, r, l));
    }
