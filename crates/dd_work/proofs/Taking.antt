-- A ticket that is drawn is out, and nothing else is held.
use Rattle.std.proofs.Common.{◌≡◌, ◌∙◌, ◌⊎◌, ◌<◌, ◌+◌, ◌-◌, ℕ, false, List, [], take, length, Some, ap, refl, subst, sym, inl, inr, arith}
use Rattle.std.specs.List.{slice_get}
use Rattle.std.specs.Option.{is_some}
use Rattle.std.proofs.Math.Logic.{∥∥₁_map}
use Rattle.std.proofs.lemmas.Bool.{false≢true}
use Rattle.std.proofs.lemmas.Option.{same_Some}
use Rattle.dd_task.specs.Goals.{goal_for, peer_of}
use Rattle.dd_board.specs.declared.event.Event.{Event}
use Rattle.dd_board.specs.declared.event.Event.TheVariants as event
use Rattle.dd_board.specs.Boards.{TicketView}
use Rattle.dd_board.specs.Posts.{IsTaken, IsGoingAt}
use Rattle.dd_board.specs.Standing.{is_proved, is_spent, is_post, posts, IsQuiet, IsGoing}
use Rattle.dd_board.specs.Steps.{apply, taken}
use Rattle.dd_board.specs.declared.ticket.Take.{Take}
use Rattle.dd_board.specs.declared.ticket.Take.TheVariants as takes
use Rattle.dd_board.specs.Takes.{IsDrawn, IsSettled, Takes}
use Rattle.dd_board.specs.View.{Task, SessionView, into_peer, change_at}
use Rattle.dd_board.specs.Wanted.{Wanted, root, raised, raises}
use Rattle.dd_board.specs.Allowed.{MayTake}
use Rattle.dd_board.proofs.Changes.{changed-at, at-changed, still-at}
use Rattle.dd_work.specs.Settled.{ExtendEach, HasNothingHeld}
use Rattle.dd_work.specs.Turns.{IsOut, left, left_in}
use Rattle.dd_work.proofs.Extending.{extend-changed}
use Rattle.dd_work.proofs.Lists.{read-changed, sum-changed, count-end, any-end, take-all}

-- what a take that gives a ticket does, and one that finds no session going

pub drawn-by : (old new : List SessionView) (worker : ℕ) (t : Take) (ticket : TicketView) → t ≡ takes.Ticket ticket → Takes old new worker t → IsDrawn old new worker ticket
drawn-by old new worker t ticket is took = subst (Takes old new worker) is took

pub settled-by : (old new : List SessionView) (worker : ℕ) (t : Take) → t ≡ takes.Settled → Takes old new worker t → (new ≡ old) × IsSettled old
settled-by old new worker t is took = subst (Takes old new worker) is took

-- a take leaves a session going
module _ (s : SessionView) (t worker number seen : ℕ) (may : MayTake s t number seen) where
  abbrev after : SessionView
  after = apply s (event.Take t worker number seen) []

  abbrev draw : Task → Task
  draw = taken number seen

  wanted-still : (u : ℕ) → Wanted s u → Wanted after u
  wanted-still u root = root
  wanted-still u (raised a v w r) =
      let still = still-at Task draw s.tasks t a r.0 r.1 in
      raised a v (wanted-still a w) (still.0, still.1, ap (λ x. raises x v) (same-state a still.0 r.0 still.2) ∙ r.2)
    where
      same-state : (a : ℕ) (y x : Task) → (y ≡ x) ⊎ ((a ≡ t) × (y ≡ draw x)) → y.state ≡ x.state
      same-state a y x (inl e) = ap (λ (z : Task). z.state) e
      same-state a y x (inr e) = ap (λ (z : Task). z.state) e.1

  held-now : slice_get after.tasks t ≡ Some (draw may.task)
  held-now = at-changed Task draw s.tasks t may.task may.at

  not-quiet : IsQuiet after → ⊥
  not-quiet quiet = false≢true (sym (quiet t (draw may.task) (∥∥₁_map may.wanted (wanted-still t)) held-now).1)

  same-posts : posts after ≡ posts s
  same-posts = count-end is_post s.journal (event.Take t worker number seen) ∙ (let e : posts s + 0 ≡ posts s = omega arith in e)

  pub going-still : IsGoing after
  going-still = (
    read-changed draw (λ (task : Task). is_proved task.state) (λ a. refl) s.tasks t 0 false ∙ may.going.0,
    any-end is_spent s.journal (event.Take t worker number seen) refl ∙ may.going.1,
    not-quiet,
    subst (λ n. n < s.job.budget.verdicts) (sym same-posts) may.going.3,
  )

module _ (old new : List SessionView) (worker : ℕ) (ticket : TicketView) (drawn : IsDrawn old new worker ticket) where
  abbrev s : SessionView
  s = drawn.session

  abbrev e : Event
  e = event.Take ticket.task worker ticket.number (length ticket.view)

  abbrev later : SessionView
  later = apply s e []

  abbrev changed : List SessionView
  changed = change_at (λ r. apply r e []) old ticket.session

  pub take-extends : ExtendEach old new
  take-extends = subst (ExtendEach old) (sym drawn.after) (extend-changed old ticket.session e [])

  pub take-left : left new ≡ left old
  take-left =
      let sum = sum-changed (λ r. apply r e []) left_in old ticket.session s drawn.at in
      let one : left_in later ≡ left_in s = ap (λ n. s.job.budget.verdicts - n) (same-posts s ticket.task worker ticket.number (length ticket.view) drawn.may) in
      ap left drawn.after ∙ (let q : left changed ≡ left old = omega (arith, sum, one) in q)

  module _ (goal : ticket.goal ≡ goal_for ticket.job ticket.key) (free : HasNothingHeld old) where
    here : slice_get changed ticket.session ≡ Some later
    here = at-changed SessionView (λ r. apply r e []) old ticket.session s drawn.at

    is-taken : IsTaken changed ticket
    is-taken = record {
      session = later;
      at = here;
      by = record {
        task = taken ticket.number (length ticket.view) drawn.may.task;
        task_at = held-now s ticket.task worker ticket.number (length ticket.view) drawn.may;
        holder = record { number = ticket.number; seen = length ticket.view };
        held = refl;
        number = refl;
        key = sym drawn.key;
        job = sym drawn.job;
        view =
            let peer : ticket.goal.peer ≡ peer_of s.job drawn.may.task.key =
            ap (λ g. g.peer) goal ∙ ap (λ j. peer_of j ticket.key) drawn.job ∙ ap (peer_of s.job) drawn.key in
            ap (λ i. take (length ticket.view) (into_peer s.props i)) peer ∙ ap (take (length ticket.view)) (sym drawn.view) ∙ take-all ticket.view;
        seen = refl;
      };
    }

    is-going : IsGoingAt changed ticket
    is-going r at = subst IsGoing (same_Some later r (sym here ∙ at)) (going-still s ticket.task worker ticket.number (length ticket.view) drawn.may)

    only : (n : ℕ) (r : SessionView) → slice_get changed n ≡ Some r → IsGoing r → (t : ℕ) (task : Task) → slice_get r.tasks t ≡ Some task
        → (n ≡ ticket.session → t ≡ ticket.task → ⊥) → is_some task.holder ≡ false
    only n r at going t task task_at apart =
        let c = changed-at SessionView (λ q. apply q e []) old ticket.session n r at in from c.0 c.1 c.2
      where
        other : (q : SessionView) → slice_get old n ≡ Some q → n ≡ ticket.session → slice_get (change_at (taken ticket.number (length ticket.view)) q.tasks ticket.task) t ≡ Some task
            → is_some task.holder ≡ false
        other q at_q same place =
            let c = changed-at Task (taken ticket.number (length ticket.view)) q.tasks ticket.task t task place in
            let one : s ≡ q = same_Some s q (sym drawn.at ∙ ap (slice_get old) (sym same) ∙ at_q) in
            by c.0 c.1 c.2 (subst IsGoing one drawn.may.going)
          where
            by : (a : Task) → slice_get q.tasks t ≡ Some a → (task ≡ a) ⊎ ((t ≡ ticket.task) × (task ≡ taken ticket.number (length ticket.view) a)) → IsGoing q
                → is_some task.holder ≡ false
            by a at_a (inl k) going_q = ap (λ (x : Task). is_some x.holder) k ∙ free n q at_q going_q t a at_a
            by a at_a (inr k) going_q = absurd (apart same k.0)

        from : (q : SessionView) → slice_get old n ≡ Some q → (r ≡ q) ⊎ ((n ≡ ticket.session) × (r ≡ apply q e [])) → is_some task.holder ≡ false
        from q at_q (inl k) = free n q at_q (subst IsGoing k going) t task (ap (λ (x : SessionView). slice_get x.tasks t) (sym k) ∙ task_at)
        from q at_q (inr k) = other q at_q k.0 (ap (λ (x : SessionView). slice_get x.tasks t) (sym k.1) ∙ task_at)

    pub take-out : IsOut new ticket
    take-out = subst (λ b. IsOut b ticket) (sym drawn.after) (record { taken = is-taken; going = is-going; only = only })
