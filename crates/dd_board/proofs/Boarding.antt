-- What is kept of each session is kept of all, and one session of a board is changed.
use Rattle.std.proofs.Common.{◌≡◌, ◌∙◌, ◌⊎◌, ℕ, zero, suc, ◌+◌, ◌*◌, ◌^◌, ◌<◌, ◌≤◌, List, [], ◌∷◌, ◌++◌, map, take, length, set, Option, None, Some, ap, refl, subst, sym, inl, inr, arith, sum_by, add-one}
use Rattle.std.specs.List.{slice_get}
use Rattle.std.specs.Option.{option_map_or}
use Rattle.std.proofs.lemmas.List.{length-map}
use Rattle.std.proofs.lemmas.List.Sums.{sum_by-cons, sum_by-le, sum_by-take-le, count_by-le-length}
use Rattle.std.proofs.lemmas.Option.{same_Some, slice_get_within, none-some}
use Rattle.dd_task.proofs.Places.{All-from, at-append_cases}
use Rattle.dd_board.specs.declared.event.Event.TheVariants as event
use Rattle.dd_board.specs.declared.session.Session.{Session}
use Rattle.dd_board.specs.declared.standing.Found.TheVariants as found
use Rattle.dd_board.specs.View.{Task, SessionView, props_for, change_at}
use Rattle.dd_board.specs.Wanted.{IsWanted}
use Rattle.dd_board.specs.Standing.{IsGoing, posts, is_post}
use Rattle.dd_board.specs.Steps.{apply}
use Rattle.dd_board.specs.Legal.{IsLegal}
use Rattle.dd_board.specs.Boards.{TicketView, OfSession, AreLegal, IsEvent, tasks_in}
use Rattle.dd_board.specs.declared.ticket.Posted.{Posted}
use Rattle.dd_board.specs.declared.ticket.Posted.TheVariants as posted
use Rattle.dd_task.specs.declared.verdict.Verdict.{Verdict}
use Rattle.dd_board.specs.Holders.{NotTakenAs}
use Rattle.dd_board.specs.Posts.{IsTaken, IsTakenIn, GivesBack, Posts}
use Rattle.dd_board.specs.Allowed.{IsHeld}
use Rattle.dd_board.specs.Takes.{IsFirstOf, IsDrawn}
use Rattle.dd_board.specs.Draws.{IsDrawnFrom}
use Rattle.dd_board.specs.Stands.{IsNext, IsFound}
use Rattle.dd_board.specs.Sessions.{session_view, IsKept, AreKept}
use Rattle.dd_board.proofs.Taken.{session-here, session-from}

-- ---- reading

-- what holds of the session that is read holds of the session at its place
pub of-session : (P : SessionView → Type 0) (sessions : List Session) (board : List SessionView) (n : ℕ) (s : Session) → map session_view sessions ≡ board
    → slice_get sessions n ≡ Some s → P (session_view s) → OfSession P board n
of-session P sessions board n s is at holds v there =
    subst P (same_Some (session_view s) v (sym (session-here sessions n s at) ∙ (ap (λ b. slice_get b n) is ∙ there))) holds

pub are-legal : (sessions : List Session) (board : List SessionView) → map session_view sessions ≡ board → AreKept sessions → AreLegal board
are-legal sessions board is kept n v there =
    let from = session-from sessions n v (ap (λ b. slice_get b n) is ∙ there) in
    subst IsLegal (sym from.2) (kept n from.0 from.1).legal

-- where a task is there, so is its session
pub session-of-task : (sessions : List Session) (board : List SessionView) (n t : ℕ) → map session_view sessions ≡ board → t < tasks_in board n → n < length sessions
session-of-task sessions board n t is lt = by_case (slice_get board n) refl
  where
    by_case : (o : Option SessionView) → slice_get board n ≡ o → n < length sessions
    by_case None e = let none : tasks_in board n ≡ 0 = ap (λ o. option_map_or (λ (s : SessionView). length s.tasks) o 0) e in absurd (omega (arith, lt, none))
    by_case (Some v) e = let low = slice_get_within board n v e in let same = ap length is in let l = length-map sessions session_view in omega (arith, low, same, l)

pub tasks-are : (sessions : List Session) (board : List SessionView) (n : ℕ) (s : Session) → map session_view sessions ≡ board → slice_get sessions n ≡ Some s
    → tasks_in board n ≡ length s.tasks
tasks-are sessions board n s is at =
    ap (λ o. option_map_or (λ (x : SessionView). length x.tasks) o 0) (ap (λ b. slice_get b n) (sym is) ∙ session-here sessions n s at) ∙ length-map s.tasks (_)

-- ---- counting posts

map-take : {A B : Type 0} (f : A → B) (k : ℕ) (xs : List A) → map f (take k xs) ≡ take k (map f xs)
map-take f zero xs = refl
map-take f (suc k) [] = refl
map-take f (suc k) (x ∷ xs) = ap (λ ys. f x ∷ ys) (map-take f k xs)

sum-more : (f : SessionView → ℕ) (xs : List SessionView) (k : ℕ) (x : SessionView) → slice_get xs k ≡ Some x → sum_by f (take (k + 1) xs) ≡ sum_by f (take k xs) + f x
sum-more f xs k x at = ap (λ n. sum_by f (take n xs)) (add-one k) ∙ more xs k at
  where
    more : (xs : List SessionView) (k : ℕ) → slice_get xs k ≡ Some x → sum_by f (take (suc k) xs) ≡ sum_by f (take k xs) + f x
    more [] k at = absurd (none-some x at)
    more (y ∷ xs) zero at = let e = ap f (same_Some y x at) in let c = sum_by-cons f y [] in omega (arith, e, c)
    more (y ∷ xs) (suc k) at =
        let rest = more xs k at in
        let left = sum_by-cons f y (take (suc k) xs) in
        let right = sum_by-cons f y (take k xs) in
        omega (arith, rest, left, right)

few-posts : (s : Session) → IsKept s → s.posts ≤ 4294967295
few-posts s kept = let p = kept.posts_counted in let c = count_by-le-length is_post s.journal.items in let n = kept.numbered in omega (arith, p, c, n)

-- the sum so far, with one session more, and that it is a u64
pub record IsSummed (sessions : List Session) (k sum : ℕ) : Type 0 where
  pub is : sum ≡ sum_by posts (map session_view (take k sessions))

sum-posts : (sessions : List Session) → AreKept sessions → sum_by posts (map session_view sessions) ≤ length sessions * 4294967295
sum-posts sessions kept =
    let l = length-map sessions session_view in
    let bound = sum_by-le posts 4294967295 (map session_view sessions) (All-from SessionView (λ v. posts v ≤ 4294967295) (map session_view sessions) (λ n v at.
    let from = session-from sessions n v at in
    let few = few-posts from.0 (kept n from.0 from.1) in
    let counted = (kept n from.0 from.1).posts_counted in
    let same = ap posts from.2 in
    omega (arith, few, counted, same))) in
    subst (λ n. sum_by posts (map session_view sessions) ≤ n * 4294967295) l bound

pub posts-next : (sessions : List Session) (k sum : ℕ) (s : Session) → AreKept sessions → slice_get sessions k ≡ Some s → IsSummed sessions k sum → IsSummed sessions (k + 1) (sum + s.posts)
posts-next sessions k sum s kept at so_far =
    let more = sum-more posts (map session_view sessions) k (session_view s) (session-here sessions k s at) in
    let counted = (kept k s at).posts_counted in
    let old = so_far.is ∙ ap (sum_by posts) (map-take session_view k sessions) in
    record { is = (let e : sum + s.posts ≡ sum_by posts (take (k + 1) (map session_view sessions)) = omega (arith, more, counted, old) in e) ∙ ap (sum_by posts) (sym (map-take session_view (k + 1) sessions)) }

pub posts-fit : (sessions : List Session) (k sum : ℕ) → AreKept sessions → length sessions < 2 ^ 32 → IsSummed sessions k sum → sum < 18446744073709551616
posts-fit sessions k sum kept few so_far =
    let all = sum-posts sessions kept in
    let some = sum_by-take-le posts (map session_view sessions) k in
    let same = so_far.is ∙ ap (sum_by posts) (map-take session_view k sessions) in
    omega (arith, all, some, same, few)

-- ---- one session is changed

pub set-view : (g : SessionView → SessionView) (xs : List Session) (n : ℕ) (s s' : Session) → slice_get xs n ≡ Some s → session_view s' ≡ g (session_view s)
    → map session_view (set xs n s') ≡ change_at g (map session_view xs) n
set-view g [] n s s' at e = absurd (none-some s at)
set-view g (x ∷ xs) zero s s' at e = ap (λ v. v ∷ map session_view xs) (e ∙ ap (λ z. g (session_view z)) (sym (same_Some x s at)))
set-view g (x ∷ xs) (suc n) s s' at e = ap (λ vs. session_view x ∷ vs) (set-view g xs n s s' at e)

pub set-same : (xs : List Session) (n : ℕ) (s s' : Session) → slice_get xs n ≡ Some s → session_view s' ≡ session_view s → map session_view (set xs n s') ≡ map session_view xs
set-same [] n s s' at e = absurd (none-some s at)
set-same (x ∷ xs) zero s s' at e = ap (λ v. v ∷ map session_view xs) (e ∙ ap session_view (sym (same_Some x s at)))
set-same (x ∷ xs) (suc n) s s' at e = ap (λ vs. session_view x ∷ vs) (set-same xs n s s' at e)

at-set : (xs : List Session) (n m : ℕ) (y x : Session) → slice_get (set xs n y) m ≡ Some x → (slice_get xs m ≡ Some x) ⊎ (y ≡ x)
at-set [] n m y x at = inl at
at-set (z ∷ xs) zero zero y x at = inr (same_Some y x at)
at-set (z ∷ xs) zero (suc m) y x at = inl at
at-set (z ∷ xs) (suc n) zero y x at = inl at
at-set (z ∷ xs) (suc n) (suc m) y x at = at-set xs n m y x at

pub set-kept : (xs : List Session) (n : ℕ) (s' : Session) → AreKept xs → IsKept s' → AreKept (set xs n s')
set-kept xs n s' kept new m x at = elim (at-set xs n m s' x at) [
  | inl old ↦ kept m x old
  | inr same ↦ subst IsKept same new
]

-- ---- a take

module _ (sessions : List Session) (n t : ℕ) (found : IsFound (map session_view sessions) (found.Due n t)) where
  pub found-low : n < length sessions
  found-low =
      let low = slice_get_within (map session_view sessions) n found.0.awaited.session found.0.awaited.at in
      let l = length-map sessions session_view in
      omega (arith, low, l)

  module _ (s : Session) (at : slice_get sessions n ≡ Some s) where
    same : found.0.awaited.session ≡ session_view s
    same = same_Some found.0.awaited.session (session_view s) (sym found.0.awaited.at ∙ session-here sessions n s at)

    pub found-next : IsGoing (session_view s) × IsNext (session_view s) t
    found-next = subst (λ (v : SessionView). IsGoing v × IsNext v t) same
        (found.0.awaited.going, record { task = found.0.awaited.task; at = found.0.awaited.task_at; wanted = found.0.awaited.wanted; due = found.0.due })

    pub drawn : (s' : Session) (worker : ℕ) (ticket : TicketView) → IsDrawnFrom (session_view s) (session_view s') n t worker ticket
        → IsDrawn (map session_view sessions) (map session_view (set sessions n s')) worker ticket
    drawn s' worker ticket d =
        record {
          session = session_view s;
          at = ap (slice_get (map session_view sessions)) d.filled.session ∙ session-here sessions n s at;
          may = record {
            task = d.may.task;
            at = ap (slice_get (session_view s).tasks) d.filled.task_is ∙ d.may.at;
            going = d.may.going;
            due = d.may.due;
            wanted = subst (IsWanted (session_view s)) (sym d.filled.task_is) d.may.wanted;
            drawn = d.may.drawn;
            sees = d.may.sees;
          };
          job = d.filled.job;
          key = d.filled.key ∙ ap (λ (x : Task). x.key) (same_Some d.filled.task d.may.task (sym d.filled.at ∙ d.may.at));
          view = d.filled.view ∙ ap (props_for (session_view s)) (same_Some d.filled.task d.may.task (sym d.filled.at ∙ d.may.at));
          first = subst (λ k. IsFirstOf (map session_view sessions) k ticket.task) (sym d.filled.session)
              (subst (λ k. IsFirstOf (map session_view sessions) n k) (sym d.filled.task_is) found.1);
          after = set-view (λ v. apply v (event.Take ticket.task worker ticket.number (length ticket.view)) []) sessions n s s' at
              (d.after ∙ ap (λ k. apply (session_view s) (event.Take k worker ticket.number (length ticket.view)) []) (sym d.filled.task_is))
              ∙ ap (change_at (λ v. apply v (event.Take ticket.task worker ticket.number (length ticket.view)) []) (map session_view sessions)) (sym d.filled.session);
        }

-- ---- a ticket is given back

pub taken-low : (sessions : List Session) (t : TicketView) → IsTaken (map session_view sessions) t → t.session < length sessions
taken-low sessions t h =
    let low = slice_get_within (map session_view sessions) t.session h.session h.at in
    let l = length-map sessions session_view in
    omega (arith, low, l)

pub held-by : (s : SessionView) (t : TicketView) → IsTakenIn s t → IsHeld s t.task t.number
held-by s t h = record { task = h.task; at = h.task_at; holder = h.holder; held = h.held; with_number = h.number }

module _ (sessions : List Session) (t : TicketView) (h : IsTaken (map session_view sessions) t) (n k m : ℕ) (n_is : n ≡ t.session) (k_is : k ≡ t.task) (m_is : m ≡ t.number)
    (s : Session) (at : slice_get sessions n ≡ Some s) where
  pub taken-in : IsTakenIn (session_view s) t
  taken-in = subst (λ v. IsTakenIn v t) (same_Some h.session (session_view s)
      (sym h.at ∙ (ap (slice_get (map session_view sessions)) (sym n_is) ∙ session-here sessions n s at))) h.by

  pub taken-held : IsHeld (session_view s) k m
  taken-held = subst (λ x. IsHeld (session_view s) x m) (sym k_is) (subst (IsHeld (session_view s) t.task) (sym m_is) (held-by (session_view s) t taken-in))

  pub given-event : (s' : Session) → session_view s' ≡ apply (session_view s) (event.Give k m) []
      → IsEvent t.session (event.Give t.task t.number) [] (map session_view sessions) (map session_view (set sessions n s'))
  given-event s' after =
      let after' : session_view s' ≡ apply (session_view s) (event.Give t.task t.number) [] =
      after ∙ (ap (λ x. apply (session_view s) (event.Give x m) []) k_is ∙ ap (λ x. apply (session_view s) (event.Give t.task x) []) m_is) in
      record {
        session = session_view s;
        at = ap (slice_get (map session_view sessions)) (sym n_is) ∙ session-here sessions n s at;
        allowed = held-by (session_view s) t taken-in;
        after = set-view (λ v. apply v (event.Give t.task t.number) []) sessions n s s' at after'
            ∙ ap (change_at (λ v. apply v (event.Give t.task t.number) []) (map session_view sessions)) n_is;
      }

-- ---- a ticket that is not the holder's

pub refused-back : (board : List SessionView) (t : TicketView) (p : Posted) → NotTakenAs board t p → GivesBack board board t p
refused-back board t posted.Ok h = absurd h
refused-back board t posted.Ended h = absurd h
refused-back board t (posted.NotTaken holder number view) h = (refl, h)

pub refused-post : (board : List SessionView) (t : TicketView) (v : Verdict) (p : Posted) → NotTakenAs board t p → Posts board board t v p
refused-post board t v posted.Ok h = absurd h
refused-post board t v posted.Ended h = absurd h
refused-post board t v (posted.NotTaken holder number view) h = (refl, h)

-- ---- one session more

pub kept-push : (xs : List Session) (s : Session) → AreKept xs → IsKept s → AreKept (xs ++ s ∷ [])
kept-push xs s kept new m x at = elim (at-append_cases Session xs (s ∷ []) m x at) [
  | inl old ↦ kept m x old
  | inr last ↦ subst IsKept (only last.0 last.2) new
]
  where
    only : (k : ℕ) → slice_get (s ∷ []) k ≡ Some x → s ≡ x
    only zero e = same_Some s x e
    only (suc k) e = absurd (none-some x e)

pub view-push : (xs : List Session) (s : Session) (v : SessionView) → session_view s ≡ v → map session_view (xs ++ s ∷ []) ≡ map session_view xs ++ v ∷ []
view-push [] s v e = ap (λ x. x ∷ []) e
view-push (x ∷ xs) s v e = ap (λ ys. session_view x ∷ ys) (view-push xs s v e)
