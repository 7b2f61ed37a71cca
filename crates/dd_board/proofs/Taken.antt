-- Whether a ticket is that of its task's holder.
use Rattle.std.proofs.Common.{add-one, ap₂, ◌≡◌, ◌≢◌, ◌∙◌, ◌↔◌, ℕ, zero, suc, ◌+◌, ◌<◌, ◌≤◌, Bool, false, IsTrue, List, [], ◌∷◌, take, map, length, Option, None, Some, ap, refl, subst, sym, arith, option_map}
use Rattle.std.specs.List.{slice_get}
use Rattle.std.specs.Option.{option_map_or}
use Rattle.std.proofs.lemmas.Bool.{false≢true}
use Rattle.std.proofs.lemmas.Option.{same_Some, slice_get-map, none-some}
use Rattle.dd_task.specs.declared.line.Prop.{Prop}
use Rattle.dd_board.specs.declared.session.Session.{Session}
use Rattle.dd_board.specs.declared.ticket.Posted.TheVariants as posted
use Rattle.dd_board.specs.View.{SessionView, into_peer}
use Rattle.dd_board.specs.Boards.{TicketView}
use Rattle.dd_board.specs.Posts.{IsTaken, IsFirstDifference, props_now, holder_now}
use Rattle.dd_board.specs.Holders.{HasHolder, IsHeldOn, NotTakenAs}
use Rattle.dd_board.specs.Sessions.{session_view}

pub session-here : (sessions : List Session) (n : ℕ) (s : Session) → slice_get sessions n ≡ Some s → slice_get (map session_view sessions) n ≡ Some (session_view s)
session-here sessions n s e = slice_get-map session_view sessions n ∙ ap (option_map session_view) e

pub session-from : (sessions : List Session) (n : ℕ) (v : SessionView) → slice_get (map session_view sessions) n ≡ Some v → (s : Session) × (slice_get sessions n ≡ Some s) × (v ≡ session_view s)
session-from sessions n v e = from (slice_get sessions n) refl (sym (slice_get-map session_view sessions n) ∙ e)
  where
    from : (o : Option Session) → slice_get sessions n ≡ o → option_map session_view o ≡ Some v → (s : Session) × (slice_get sessions n ≡ Some s) × (v ≡ session_view s)
    from None is q = cc
    from (Some s) is q = (s, is, sym (same_Some (session_view s) v q))

pub held-on : (sessions : List Session) (t : TicketView) (s : Session) (b : Bool) → slice_get sessions t.session ≡ Some s → IsTrue b ↔ HasHolder (session_view s) t
    → IsTrue b ↔ IsHeldOn (map session_view sessions) t
held-on sessions t s b at same = (
  λ h. record { session = session_view s; at = session-here sessions t.session s at; by = same.0 h },
  λ h. same.1 (subst (λ v. HasHolder v t) (same_Some h.session (session_view s) (sym h.at ∙ session-here sessions t.session s at)) h.by),
)

pub held-nowhere : (sessions : List Session) (t : TicketView) → slice_get sessions t.session ≡ None → IsTrue false ↔ IsHeldOn (map session_view sessions) t
held-nowhere sessions t at = (
  λ h. absurd (false≢true h),
  λ h. absurd (none-some h.session (sym (slice_get-map session_view sessions t.session ∙ ap (option_map session_view) at) ∙ h.at)),
)

-- ---- the view

pub difference-here : (props view : List Prop) (k : ℕ) → k < length view → take k props ≡ take k view → slice_get props k ≢ slice_get view k → IsFirstDifference props view k
difference-here props view k low same other = record { within = (omega (arith, low)); same = same; differs = λ lt. other }

take-all : {A : Type 0} (xs : List A) → take (length xs) xs ≡ xs
take-all [] = refl
take-all (x ∷ xs) = ap (λ ys. x ∷ ys) (take-all xs)

at-take : {A : Type 0} (xs : List A) (n k : ℕ) → k < n → slice_get (take n xs) k ≡ slice_get xs k
at-take xs zero k lt = absurd (omega (arith, lt))
at-take [] (suc n) k lt = refl
at-take (x ∷ xs) (suc n) zero lt = refl
at-take (x ∷ xs) (suc n) (suc k) lt = at-take xs n k (omega (arith, lt))

props-of : (board : List SessionView) (t : TicketView) (s : SessionView) → slice_get board t.session ≡ Some s → props_now board t ≡ into_peer s.props t.goal.peer
props-of board t s at = ap (λ o. option_map_or (λ (x : SessionView). into_peer x.props t.goal.peer) o []) at

module _ (board : List SessionView) (t : TicketView) (n : ℕ) (first : IsFirstDifference (props_now board t) t.view n) where
  pub taken-all : IsHeldOn board t → length t.view ≤ n → IsTaken board t
  taken-all h all =
      let whole : n ≡ length t.view = (let w = first.within in omega (arith, w, all)) in
      record {
        session = h.session;
        at = h.at;
        by = record {
          task = h.by.task;
          task_at = h.by.task_at;
          holder = h.by.by.holder;
          held = h.by.by.held;
          number = h.by.by.number;
          key = h.by.by.key;
          job = h.by.job;
          view = ap (take (length t.view)) (sym (props-of board t h.session h.at))
              ∙ (ap (λ k. take k (props_now board t)) (sym whole) ∙ (first.same ∙ (ap (λ k. take k t.view) whole ∙ take-all t.view)));
          seen = h.by.by.seen;
        };
      }

  held-if : IsTaken board t → IsHeldOn board t
  held-if h = record {
    session = h.session;
    at = h.at;
    by = record {
      task = h.by.task;
      task_at = h.by.task_at;
      by = record { holder = h.by.holder; held = h.by.held; number = h.by.number; seen = h.by.seen; key = h.by.key };
      job = h.by.job;
    };
  }

  as-told : ¬ (IsTaken board t) → NotTakenAs board t (posted.NotTaken (holder_now board t) t.number n)
  as-told not = record { not_taken = not; holder_is = refl; number_is = refl; view_is = first }

  pub not-held : ¬ (IsHeldOn board t) → NotTakenAs board t (posted.NotTaken (holder_now board t) t.number n)
  not-held not = as-told (λ h. not (held-if h))

  pub not-all : n < length t.view → NotTakenAs board t (posted.NotTaken (holder_now board t) t.number n)
  not-all lt = as-told (λ h. first.differs lt (
      sym (at-take (props_now board t) (length t.view) n lt)
      ∙ ap (λ xs. slice_get xs n) (ap (take (length t.view)) (props-of board t h.session h.at) ∙ h.by.view)))

pub take-more : {A : Type 0} (xs ys : List A) (k : ℕ) → take k xs ≡ take k ys → slice_get xs k ≡ slice_get ys k → k < length ys → take (k + 1) xs ≡ take (k + 1) ys
take-more xs ys k same at low = ap (λ n. take n xs) (add-one k) ∙ (more xs ys k same at low ∙ ap (λ n. take n ys) (sym (add-one k)))
  where
    heads : {A : Type 0} (x y : A) (xs ys : List A) → x ∷ xs ≡ y ∷ ys → (x ≡ y) × (xs ≡ ys)
    heads x y xs ys e = (cc, cc)

    more : {A : Type 0} (xs ys : List A) (k : ℕ) → take k xs ≡ take k ys → slice_get xs k ≡ slice_get ys k → k < length ys → take (suc k) xs ≡ take (suc k) ys
    more xs [] k same at low = absurd (omega (arith, low))
    more [] (y ∷ ys) zero same at low = absurd (none-some y at)
    more (x ∷ xs) (y ∷ ys) zero same at low = ap (λ z. z ∷ []) (same_Some x y at)
    more [] (y ∷ ys) (suc k) same at low = cc
    more (x ∷ xs) (y ∷ ys) (suc k) same at low =
        let h = heads x y (take k xs) (take k ys) same in
        ap₂ (λ z zs. z ∷ zs) h.0 (more xs ys k h.1 at (omega (arith, low)))
