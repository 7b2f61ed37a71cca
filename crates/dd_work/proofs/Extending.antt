-- Boards that have the same sessions, each with more events.
use Rattle.std.proofs.Common.{◌≡◌, ◌∙◌, ◌⊎◌, ℕ, List, [], ◌∷◌, ◌++◌, ap, refl, subst, sym, inl, inr}
use Rattle.std.proofs.lemmas.List.{append-nil, append_assoc}
use Rattle.dd_task.specs.declared.line.Line.{Line}
use Rattle.dd_board.specs.declared.event.Event.{Event}
use Rattle.dd_board.specs.declared.event.Event.TheVariants as event
use Rattle.dd_board.specs.Boards.{TicketView, IsEvent}
use Rattle.dd_board.specs.Posts.{IsTaken}
use Rattle.dd_board.specs.Steps.{apply}
use Rattle.dd_board.specs.View.{SessionView, change_at}
use Rattle.dd_board.proofs.Changes.{changed-at, length-changed}
use Rattle.dd_work.specs.Fit.{IsFit, AreFit}
use Rattle.dd_work.specs.Settled.{Extends, ExtendEach}

extends-self : (s : SessionView) → Extends s s
extends-self s = record { job = refl; start = refl; more = []; journal = sym (append-nil s.journal) }

extends-event : (s : SessionView) (e : Event) (lines : List Line) → Extends s (apply s e lines)
extends-event s (event.Take t w n k) lines = record { job = refl; start = refl; more = event.Take t w n k ∷ []; journal = refl }
extends-event s (event.Closed t n c) lines = record { job = refl; start = refl; more = event.Closed t n c ∷ []; journal = refl }
extends-event s (event.Opened t n m x) lines = record { job = refl; start = refl; more = event.Opened t n m x ∷ []; journal = refl }
extends-event s (event.Spent t n run) lines = record { job = refl; start = refl; more = event.Spent t n run ∷ []; journal = refl }
extends-event s (event.Give t n) lines = record { job = refl; start = refl; more = event.Give t n ∷ []; journal = refl }

pub extend-self : (board : List SessionView) → ExtendEach board board
extend-self board = record { count = refl; each = λ n s at. (s, at, extends-self s) }

pub extend-same : (old new : List SessionView) → new ≡ old → ExtendEach old new
extend-same old new e = subst (ExtendEach old) (sym e) (extend-self old)

pub extend-changed : (old : List SessionView) (n : ℕ) (e : Event) (lines : List Line) → ExtendEach old (change_at (λ s. apply s e lines) old n)
extend-changed old n e lines = record {
  count = length-changed SessionView (λ s. apply s e lines) old n;
  each = λ k s at. let c = changed-at SessionView (λ r. apply r e lines) old n k s at in (c.0, c.1, of k s c.0 c.2);
}
  where
    of : (k : ℕ) (s r : SessionView) → (s ≡ r) ⊎ ((k ≡ n) × (s ≡ apply r e lines)) → Extends r s
    of k s r (inl q) = subst (Extends r) (sym q) (extends-self r)
    of k s r (inr q) = subst (Extends r) (sym q.1) (extends-event r e lines)

pub extend-event : (n : ℕ) (e : Event) (lines : List Line) (old new : List SessionView) → IsEvent n e lines old new → ExtendEach old new
extend-event n e lines old new ev = subst (ExtendEach old) (sym ev.after) (extend-changed old n e lines)

pub extend-both : (a b c : List SessionView) → ExtendEach a b → ExtendEach b c → ExtendEach a c
extend-both a b c ab bc = record {
  count = bc.count ∙ ab.count;
  each = λ n s at.
      let middle = bc.each n s at in
      let first = ab.each n middle.0 middle.1 in (
        first.0,
        first.1,
        record {
          job = middle.2.job ∙ first.2.job;
          start = middle.2.start ∙ first.2.start;
          more = first.2.more ++ middle.2.more;
          journal = middle.2.journal ∙ ap (λ l. l ++ middle.2.more) first.2.journal ∙ append_assoc first.0.journal first.2.more middle.2.more;
        },
      );
}

pub still-fit : (old new : List SessionView) → ExtendEach old new → AreFit old → AreFit new
still-fit old new extends fit n s at =
    let from = extends.each n s at in
    subst IsFit (sym from.2.job) (fit n from.0 from.1)

-- the job of a ticket that is out is that of its session
pub job-fit : (board : List SessionView) (ticket : TicketView) → AreFit board → IsTaken board ticket → IsFit ticket.job
job-fit board ticket fit taken = subst IsFit taken.by.job (fit ticket.session taken.session taken.at)
