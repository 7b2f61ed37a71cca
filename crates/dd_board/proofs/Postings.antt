-- What a ticket's verdict is right for is what the session's event wants.
use Rattle.std.proofs.Common.{◌≡◌, ◌∙◌, ◌↔◌, IsTrue, Bool, ℕ, List, [], map, take, length, set, Some, ap, ap₂, refl, subst, sym}
use Rattle.std.specs.List.{slice_get}
use Rattle.std.specs.Option.{option_map_or}
use Rattle.std.proofs.lemmas.List.{length-map}
use Rattle.std.proofs.lemmas.Option.{same_Some}
use Rattle.dd_interp.specs.declared.interp.Interp.{Interp}
use Rattle.dd_task.specs.declared.job.Goal.{Goal}
use Rattle.dd_task.specs.declared.job.Key.{Key}
use Rattle.dd_task.specs.declared.line.Line.{Line}
use Rattle.dd_task.specs.declared.line.Prop.{Prop}
use Rattle.dd_task.specs.declared.verdict.SpentRun.{SpentRun}
use Rattle.dd_task.specs.declared.verdict.Verdict.{Verdict}
use Rattle.dd_task.specs.declared.verdict.Verdict.TheVariants as verdict
use Rattle.dd_task.specs.Goals.{goal_for, peer_of}
use Rattle.dd_task.specs.Verdicts.{IsRight}
use Rattle.dd_board.specs.declared.event.Event.{Event}
use Rattle.dd_board.specs.declared.session.Session.{Session}
use Rattle.dd_board.specs.View.{Holder, Task, SessionView, into_peer, change_at}
use Rattle.dd_board.specs.Moved.{moved_line}
use Rattle.dd_board.specs.Standing.{IsGoing}
use Rattle.dd_board.specs.Steps.{apply}
use Rattle.dd_board.specs.Allowed.{IsHeld, view_of, MayClose, MayOpen, MaySpend, IsAllowed}
use Rattle.dd_board.specs.Boards.{TicketView, IsEvent}
use Rattle.dd_board.specs.Posts.{IsTakenIn, IsTaken, IsGoingAt, event_by, lines_by, lines_in}
use Rattle.dd_board.specs.declared.event.Event.TheVariants as event
use Rattle.dd_board.specs.Draws.{IsKeyAt}
use Rattle.dd_board.specs.Sessions.{session_view}
use Rattle.dd_board.proofs.Boarding.{set-view, taken-in}
use Rattle.dd_board.proofs.Taken.{session-here}

module _ (v : SessionView) (t : TicketView) (asks : t.goal ≡ goal_for t.job t.key) (h : IsTakenIn v t) (going : IsGoing v) where
  goal-is : t.goal ≡ goal_for v.job h.task.key
  goal-is = asks ∙ ap₂ goal_for (sym h.job) (sym h.key)

  view-is : view_of v h.task h.holder ≡ t.view
  view-is = ap₂ (λ (n i : ℕ). take n (into_peer v.props i)) h.seen (sym (ap (λ (g : Goal). g.peer) goal-is)) ∙ h.view

  pub right-here : (w : Verdict) → IsRight t.job t.goal t.view w → IsRight v.job (goal_for v.job h.task.key) (view_of v h.task h.holder) w
  right-here w right =
      subst (λ j. IsRight j (goal_for v.job h.task.key) (view_of v h.task h.holder) w) (sym h.job)
      (subst (λ g. IsRight t.job g (view_of v h.task h.holder) w) goal-is (subst (λ ps. IsRight t.job t.goal ps w) (sym view-is) right))

  module _ (k m : ℕ) (k_is : k ≡ t.task) (m_is : m ≡ t.number) where
    abbrev held-here : IsHeld v k m
    held-here = record { task = h.task; at = ap (slice_get v.tasks) k_is ∙ h.task_at; holder = h.holder; held = h.held; with_number = h.number ∙ sym m_is }

    pub may-close : (view : List Prop) → view ≡ t.view → (own : List Line) → IsRight t.job t.goal t.view (verdict.Closed own)
        → MayClose v k m (length own) (map (moved_line view (length v.lines)) own)
    may-close view same own right = record {
      by = held-here;
      going = going;
      own = own;
      right = right-here (verdict.Closed own) right;
      moved = ap (λ ps. map (moved_line ps (length v.lines)) own) (same ∙ sym view-is);
      counted = sym (length-map own (moved_line view (length v.lines)));
    }

    pub may-open : (i : Interp) (x : ℕ) → IsRight t.job t.goal t.view (verdict.Open i x) → MayOpen v k m i x
    may-open i x right = record { by = held-here; going = going; right = right-here (verdict.Open i x) right }

    pub may-spend : (run : SpentRun) → IsRight t.job t.goal t.view (verdict.Spent run) → MaySpend v k m run
    may-spend run right = record { by = held-here; going = going; right = right-here (verdict.Spent run) right }

    -- whoever holds the task with this number saw the ticket's view, and asks about the peer of its goal
    pub saw-view : (g : IsHeld v k m) → g.holder.seen ≡ length t.view
    saw-view g =
        let same : g.task ≡ h.task = same_Some g.task h.task (sym g.at ∙ held-here.at) in
        ap (λ (x : Holder). x.seen) (same_Some g.holder h.holder (sym g.held ∙ (ap (λ (x : Task). x.holder) same ∙ h.held))) ∙ h.seen

    pub asks-peer : (g : IsHeld v k m) → peer_of v.job g.task.key ≡ t.goal.peer
    asks-peer g =
        let same : g.task ≡ h.task = same_Some g.task h.task (sym g.at ∙ held-here.at) in
        ap (λ (x : Task). peer_of v.job x.key) same ∙ sym (ap (λ (x : Goal). x.peer) goal-is)

    pub key-here : (key : Key) → key ≡ t.key → IsKeyAt v k key
    key-here key same = record { task = h.task; at = held-here.at; same = h.key ∙ sym same }

-- one event of the ticket's session
pub event-at : (sessions : List Session) (t : TicketView) (n : ℕ) (s s' : Session) (e e' : Event) (lines lines' : List Line) → n ≡ t.session → slice_get sessions n ≡ Some s
    → IsAllowed (session_view s) e lines → session_view s' ≡ apply (session_view s) e lines → e ≡ e' → lines ≡ lines'
    → IsEvent t.session e' lines' (map session_view sessions) (map session_view (set sessions n s'))
event-at sessions t n s s' e e' lines lines' n_is at allowed after e_is lines_is =
    subst (λ x. IsEvent t.session x lines' (map session_view sessions) (map session_view (set sessions n s'))) e_is
    (subst (λ ls. IsEvent t.session e ls (map session_view sessions) (map session_view (set sessions n s'))) lines_is (record {
      session = session_view s;
      at = ap (slice_get (map session_view sessions)) (sym n_is) ∙ session-here sessions n s at;
      allowed = allowed;
      after = set-view (λ v. apply v e lines) sessions n s s' at after ∙ ap (change_at (λ v. apply v e lines) (map session_view sessions)) n_is;
    }))

pub lines-here : (sessions : List Session) (t : TicketView) (n : ℕ) (s : Session) → n ≡ t.session → slice_get sessions n ≡ Some s → lines_in (map session_view sessions) t.session ≡ length s.lines
lines-here sessions t n s n_is at = ap (λ o. option_map_or (λ (x : SessionView). length x.lines) o 0) (ap (slice_get (map session_view sessions)) (sym n_is) ∙ session-here sessions n s at)

-- ---- the calls of the board

pub going-at : (sessions : List Session) (t : TicketView) (n : ℕ) (s : Session) (b : Bool) → n ≡ t.session → slice_get sessions n ≡ Some s → IsTrue b ↔ IsGoing (session_view s)
    → IsTrue b ↔ IsGoingAt (map session_view sessions) t
going-at sessions t n s b n_is at same =
    let here = ap (slice_get (map session_view sessions)) (sym n_is) ∙ session-here sessions n s at in (
      λ h v there. subst IsGoing (same_Some (session_view s) v (sym here ∙ there)) (same.0 h),
      λ g. same.1 (g (session_view s) here),
    )

module _ (sessions : List Session) (t : TicketView) (asks : t.goal ≡ goal_for t.job t.key) (taken : IsTaken (map session_view sessions) t) (going : IsGoingAt (map session_view sessions) t)
    (n k m : ℕ) (n_is : n ≡ t.session) (k_is : k ≡ t.task) (m_is : m ≡ t.number) (s : Session) (at : slice_get sessions n ≡ Some s) where
  in-here : IsTakenIn (session_view s) t
  in-here = taken-in sessions t taken n k m n_is k_is m_is s at

  goes : IsGoing (session_view s)
  goes = going (session_view s) (ap (slice_get (map session_view sessions)) (sym n_is) ∙ session-here sessions n s at)

  pub closed-may : (view : List Prop) → view ≡ t.view → (own : List Line) → IsRight t.job t.goal t.view (verdict.Closed own)
      → MayClose (session_view s) k m (length own) (map (moved_line view (length s.lines)) own)
  closed-may = may-close (session_view s) t asks in-here goes k m k_is m_is

  pub closed-key : (key : Key) → key ≡ t.key → IsKeyAt (session_view s) k key
  closed-key = key-here (session_view s) t asks in-here goes k m k_is m_is

  pub closed-event : (s' : Session) (view : List Prop) → view ≡ t.view → (own : List Line) → IsRight t.job t.goal t.view (verdict.Closed own)
      → session_view s' ≡ apply (session_view s) (event.Closed k m (length own)) (map (moved_line view (length s.lines)) own)
      → IsEvent t.session (event_by t (verdict.Closed own)) (lines_by (map session_view sessions) t (verdict.Closed own)) (map session_view sessions) (map session_view (set sessions n s'))
  closed-event s' view same own right after = event-at sessions t n s s' (event.Closed k m (length own)) (event.Closed t.task t.number (length own))
      (map (moved_line view (length s.lines)) own) (map (moved_line t.view (lines_in (map session_view sessions) t.session)) own) n_is at (closed-may view same own right) after
      (ap₂ (λ x y. event.Closed x y (length own)) k_is m_is)
      (ap₂ (λ ps c. map (moved_line ps c) own) same (sym (lines-here sessions t n s n_is at)))

  pub open-may : (i : Interp) (x : ℕ) → IsRight t.job t.goal t.view (verdict.Open i x) → MayOpen (session_view s) k m i x
  open-may = may-open (session_view s) t asks in-here goes k m k_is m_is

  pub open-saw : (seen : ℕ) → seen ≡ length t.view → (g : IsHeld (session_view s) k m) → g.holder.seen ≡ seen
  open-saw seen is g = saw-view (session_view s) t asks in-here goes k m k_is m_is g ∙ sym is

  pub open-peer : (peer : ℕ) → peer ≡ t.goal.peer → (g : IsHeld (session_view s) k m) → peer_of s.job g.task.key ≡ peer
  open-peer peer is g = asks-peer (session_view s) t asks in-here goes k m k_is m_is g ∙ sym is

  pub open-event : (s' : Session) (i : Interp) (x : ℕ) → IsRight t.job t.goal t.view (verdict.Open i x) → session_view s' ≡ apply (session_view s) (event.Opened k m i x) []
      → IsEvent t.session (event_by t (verdict.Open i x)) [] (map session_view sessions) (map session_view (set sessions n s'))
  open-event s' i x right after = event-at sessions t n s s' (event.Opened k m i x) (event.Opened t.task t.number i x) [] [] n_is at (open-may i x right) after
      (ap₂ (λ a b. event.Opened a b i x) k_is m_is) refl

  pub spent-may : (run : SpentRun) → IsRight t.job t.goal t.view (verdict.Spent run) → MaySpend (session_view s) k m run
  spent-may = may-spend (session_view s) t asks in-here goes k m k_is m_is

  pub spent-event : (s' : Session) (run : SpentRun) → IsRight t.job t.goal t.view (verdict.Spent run) → session_view s' ≡ apply (session_view s) (event.Spent k m run) []
      → IsEvent t.session (event_by t (verdict.Spent run)) [] (map session_view sessions) (map session_view (set sessions n s'))
  spent-event s' run right after = event-at sessions t n s s' (event.Spent k m run) (event.Spent t.task t.number run) [] [] n_is at (spent-may run right) after
      (ap₂ (λ a b. event.Spent a b run) k_is m_is) refl
