-- A posted verdict frees its task, and one verdict less may be posted. A ticket that is given back frees its task as well.
use Rattle.std.proofs.Common.{◌≡◌, ◌∙◌, ◌⊎◌, ◌<◌, ◌+◌, ◌-◌, ℕ, zero, suc, false, List, [], ◌∷◌, map, length, Some, ap, refl, subst, sym, inl, inr, arith}
use Rattle.std.specs.List.{slice_get}
use Rattle.std.specs.Option.{is_some}
use Rattle.std.proofs.lemmas.Option.{same_Some}
use Rattle.dd_task.specs.declared.line.Line.{Line}
use Rattle.dd_task.specs.declared.verdict.Verdict.{Verdict}
use Rattle.dd_task.specs.declared.verdict.Verdict.TheVariants as verdict
use Rattle.dd_board.specs.declared.event.Event.{Event}
use Rattle.dd_board.specs.declared.event.Event.TheVariants as event
use Rattle.dd_board.specs.declared.ticket.Posted.{Posted}
use Rattle.dd_board.specs.declared.ticket.Posted.TheVariants as posted
use Rattle.dd_board.specs.Boards.{TicketView, IsEvent}
use Rattle.dd_board.specs.Posts.{Posts, GivesBack, event_by, lines_by}
use Rattle.dd_board.specs.Standing.{is_post, posts, IsGoing}
use Rattle.dd_board.specs.Steps.{apply, given_back, proved_by, opened_by, with_keys, number_of, raised_keys}
use Rattle.dd_board.specs.View.{Task, SessionView, change_at}
use Rattle.std.proofs.lemmas.Bool.{cases_eq}
use Rattle.dd_board.proofs.Changes.{changed-at, at-changed, with_keys-at}
use Rattle.dd_work.specs.Settled.{ExtendEach, HasNothingHeld}
use Rattle.dd_work.specs.Turns.{IsOut, left, left_in}
use Rattle.dd_work.proofs.Extending.{extend-event, extend-same}
use Rattle.dd_work.proofs.Lists.{sum-changed, count-end}

-- ---- the tasks of a session after an event that frees one: each is free, or stood there and is another

-- the event of a verdict on the task, or of its ticket that is given back
abbrev pub Frees : Event → ℕ → Type 0
Frees (event.Take t w n s) u = ⊥
Frees (event.Closed t n c) u = t ≡ u
Frees (event.Opened t n m x) u = t ≡ u
Frees (event.Spent t n run) u = t ≡ u
Frees (event.Give t n) u = t ≡ u

-- the event of a verdict on it
abbrev pub IsPostOf : Event → ℕ → Type 0
IsPostOf (event.Take t w n s) u = ⊥
IsPostOf (event.Closed t n c) u = t ≡ u
IsPostOf (event.Opened t n m x) u = t ≡ u
IsPostOf (event.Spent t n run) u = t ≡ u
IsPostOf (event.Give t n) u = ⊥

freed : (f : Task → Task) → ((a : Task) → is_some (f a).holder ≡ false) → (tasks : List Task) (t u : ℕ) (b : Task) → slice_get (change_at f tasks t) u ≡ Some b
    → (is_some b.holder ≡ false) ⊎ ((slice_get tasks u ≡ Some b) × (u ≡ t → ⊥))
freed f frees [] t u b e = cc
freed f frees (x ∷ xs) zero zero b e = inl (ap (λ (y : Task). is_some y.holder) (sym (same_Some (f x) b e)) ∙ frees x)
freed f frees (x ∷ xs) zero (suc u) b e = inr (e, λ q. cc)
freed f frees (x ∷ xs) (suc t) zero b e = inr (e, λ q. cc)
freed f frees (x ∷ xs) (suc t) (suc u) b e = elim (freed f frees xs t u b e) [
  | inl h ↦ inl h
  | inr h ↦ inr (h.0, λ q. h.1 (let k : u ≡ t = omega (arith, q) in k))
]

after-free : (s : SessionView) (e : Event) (lines : List Line) (t : ℕ) → Frees e t → (u : ℕ) (b : Task) → slice_get (apply s e lines).tasks u ≡ Some b
    → (is_some b.holder ≡ false) ⊎ ((slice_get s.tasks u ≡ Some b) × (u ≡ t → ⊥))
after-free s (event.Take k w n v) lines t is u b at = absurd is
after-free s (event.Closed k n c) lines t is u b at =
    elim (freed (proved_by (length s.lines + length lines - 1)) (λ a. refl) s.tasks k u b at) [
      | inl h ↦ inl h
      | inr h ↦ inr (h.0, λ q. h.1 (q ∙ sym is))
    ]
after-free s (event.Opened k n m x) lines t is u b at =
    elim (freed (opened_by (length s.journal) (map (number_of (with_keys s.tasks (raised_keys s k m))) (raised_keys s k m))) (λ a. refl)
    (with_keys s.tasks (raised_keys s k m)) k u b at) [
      | inl h ↦ inl h
      | inr h ↦ elim (with_keys-at s.tasks (raised_keys s k m) u b h.0) [
        | inl old ↦ inr (old, λ q. h.1 (q ∙ sym is))
        | inr new ↦ inl (ap (λ (y : Task). is_some y.holder) new.3)
      ]
    ]
after-free s (event.Spent k n run) lines t is u b at =
    elim (freed given_back (λ a. refl) s.tasks k u b at) [
      | inl h ↦ inl h
      | inr h ↦ inr (h.0, λ q. h.1 (q ∙ sym is))
    ]
after-free s (event.Give k n) lines t is u b at =
    elim (freed given_back (λ a. refl) s.tasks k u b at) [
      | inl h ↦ inl h
      | inr h ↦ inr (h.0, λ q. h.1 (q ∙ sym is))
    ]

one-more : (s : SessionView) (e : Event) (lines : List Line) (t : ℕ) → IsPostOf e t → posts (apply s e lines) ≡ posts s + 1
one-more s (event.Take k w n v) lines t is = absurd is
one-more s (event.Closed k n c) lines t is = count-end is_post s.journal (event.Closed k n c)
one-more s (event.Opened k n m x) lines t is = count-end is_post s.journal (event.Opened k n m x)
one-more s (event.Spent k n run) lines t is = count-end is_post s.journal (event.Spent k n run)
one-more s (event.Give k n) lines t is = absurd is

same-budget : (s : SessionView) (e : Event) (lines : List Line) → (apply s e lines).job.budget.verdicts ≡ s.job.budget.verdicts
same-budget s (event.Take k w n v) lines = refl
same-budget s (event.Closed k n c) lines = refl
same-budget s (event.Opened k n m x) lines = refl
same-budget s (event.Spent k n run) lines = refl
same-budget s (event.Give k n) lines = refl

by-verdict : (ticket : TicketView) (v : Verdict) → IsPostOf (event_by ticket v) ticket.task
by-verdict ticket (verdict.Closed lines) = refl
by-verdict ticket (verdict.Open m x) = refl
by-verdict ticket (verdict.Spent run) = refl

frees-verdict : (ticket : TicketView) (v : Verdict) → Frees (event_by ticket v) ticket.task
frees-verdict ticket (verdict.Closed lines) = refl
frees-verdict ticket (verdict.Open m x) = refl
frees-verdict ticket (verdict.Spent run) = refl

-- ---- a ticket that is out, and an event that frees its task

module _ (old : List SessionView) (ticket : TicketView) (out : IsOut old ticket) (e : Event) (lines : List Line) (frees : Frees e ticket.task) where
  abbrev changed : List SessionView
  changed = change_at (λ s. apply s e lines) old ticket.session

  nothing-held : HasNothingHeld changed
  nothing-held n r at going t task task_at =
      let c = changed-at SessionView (λ q. apply q e lines) old ticket.session n r at in from c.0 c.1 c.2
    where
      freed-in : (q : SessionView) → slice_get old n ≡ Some q → n ≡ ticket.session → slice_get (apply q e lines).tasks t ≡ Some task → is_some task.holder ≡ false
      freed-in q at_q same place = elim (after-free q e lines ticket.task frees t task place) [
        | inl free ↦ free
        | inr old_one ↦ out.only n q at_q (out.going q (ap (slice_get old) (sym same) ∙ at_q)) t task old_one.0 (λ _ k. old_one.1 k)
      ]

      from : (q : SessionView) → slice_get old n ≡ Some q → (r ≡ q) ⊎ ((n ≡ ticket.session) × (r ≡ apply q e lines)) → is_some task.holder ≡ false
      from q at_q (inl k) = elim (cases_eq n ticket.session) [
        | inl same ↦ unchanged same
        | inr apart ↦ out.only n q at_q (subst IsGoing k going) t task (ap (λ (x : SessionView). slice_get x.tasks t) (sym k) ∙ task_at) (λ same _. apart same)
      ]
        where
          -- where the event left the session as it was, its tasks are those after the event all the same
          unchanged : n ≡ ticket.session → is_some task.holder ≡ false
          unchanged same = freed-in q at_q same (ap (λ (x : SessionView). slice_get x.tasks t) (sym (same-one same)) ∙ task_at)
            where
              same-one : n ≡ ticket.session → r ≡ apply q e lines
              same-one is =
                  let there = at-changed SessionView (λ x. apply x e lines) old ticket.session q (ap (slice_get old) (sym is) ∙ at_q) in
                  same_Some r (apply q e lines) (sym at ∙ ap (slice_get changed) is ∙ there)
      from q at_q (inr k) = freed-in q at_q k.0 (ap (λ (x : SessionView). slice_get x.tasks t) (sym k.1) ∙ task_at)

  freed-free : (new : List SessionView) → IsEvent ticket.session e lines old new → HasNothingHeld new
  freed-free new ev = subst HasNothingHeld (sym ev.after) nothing-held

-- ---- a verdict is posted

module _ (old new : List SessionView) (ticket : TicketView) (v : Verdict) (out : IsOut old ticket) where
  abbrev e : Event
  e = event_by ticket v

  abbrev lines : List Line
  lines = lines_by old ticket v

  fewer : IsEvent ticket.session e lines old new → left new < left old
  fewer ev =
      let s = ev.session in
      let going = out.going s ev.at in
      let sum = sum-changed (λ r. apply r e lines) left_in old ticket.session s ev.at in
      let more = one-more s e lines ticket.task (by-verdict ticket v) in
      let budget = same-budget s e lines in
      let below = going.3 in
      let one : left_in (apply s e lines) + 1 ≡ left_in s = omega (arith, more, budget, below) in
      subst (λ n. n < left old) (sym (ap left ev.after)) (omega (arith, sum, one))

  pub post-free : (p : Posted) → Posts old new ticket v p → HasNothingHeld new
  post-free posted.Ok h = freed-free old ticket out e lines (frees-verdict ticket v) new h.2
  post-free posted.Ended h = absurd (h.1 out.going)
  post-free (posted.NotTaken holder number view) h = absurd (h.1.not_taken out.taken)

  pub post-fewer : (p : Posted) → Posts old new ticket v p → left new < left old
  post-fewer posted.Ok h = fewer h.2
  post-fewer posted.Ended h = absurd (h.1 out.going)
  post-fewer (posted.NotTaken holder number view) h = absurd (h.1.not_taken out.taken)

  pub post-extends : (p : Posted) → Posts old new ticket v p → ExtendEach old new
  post-extends posted.Ok h = extend-event ticket.session e lines old new h.2
  post-extends posted.Ended h = extend-event ticket.session (event.Give ticket.task ticket.number) [] old new h.2
  post-extends (posted.NotTaken holder number view) h = extend-same old new h.0

-- ---- a ticket is given back

pub give-extends : (old new : List SessionView) (ticket : TicketView) (p : Posted) → GivesBack old new ticket p → ExtendEach old new
give-extends old new ticket posted.Ok h = extend-event ticket.session (event.Give ticket.task ticket.number) [] old new h.1
give-extends old new ticket posted.Ended h = absurd h
give-extends old new ticket (posted.NotTaken holder number view) h = extend-same old new h.0

pub give-free : (old new : List SessionView) (ticket : TicketView) (p : Posted) → IsOut old ticket → GivesBack old new ticket p → HasNothingHeld new
give-free old new ticket posted.Ok out h = freed-free old ticket out (event.Give ticket.task ticket.number) [] refl new h.1
give-free old new ticket posted.Ended out h = absurd h
give-free old new ticket (posted.NotTaken holder number view) out h = absurd (h.1.not_taken out.taken)

-- the ticket that comes back with a board that was not changed is out
pub out-again : (old new : List SessionView) (ticket back : TicketView) → new ≡ old → back ≡ ticket → IsOut old ticket → IsOut new back
out-again old new ticket back same is out = subst (λ b. IsOut b back) (sym same) (subst (IsOut old) (sym is) out)
