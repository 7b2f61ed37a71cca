-- Boards of fit asks can be settled, and stay boards of them.
use Rattle.std.proofs.Common.{◌≡◌, ◌∙◌, ℕ, zero, suc, false, true, List, [], ◌∷◌, Some, ap, refl, subst, sym, All}
use Rattle.std.specs.Prelude.{is_some, slice_get}
use Rattle.std.proofs.lemmas.List.Elements.{All-weaker}
use Rattle.std.proofs.lemmas.Option.{same_Some}
use Rattle.dd_close.specs.Fits.{HasSmallTarget}
use Rattle.dd_peer.specs.declared.version.Rule.{Rule}
use Rattle.dd_pin.proofs.Pins.{accepted-declared}
use Rattle.dd_task.specs.Rules.{all_onto}
use Rattle.dd_task.specs.declared.job.Job.{Job}
use Rattle.dd_task.specs.declared.job.Key.TheVariants.{Root}
use Rattle.dd_task.proofs.Places.{All-at, All-from}
use Rattle.dd_board.specs.Fit.{IsPlaced}
use Rattle.dd_board.specs.Legal.{begun, empty_start}
use Rattle.dd_board.specs.Steps.{new_task}
use Rattle.dd_board.specs.View.{SessionView, Start, Task}
use Rattle.dd_text.specs.Reads.{IsSmall, request_limits}
use Rattle.dd_text.specs.Symbols.{SymbolLists}
use Rattle.dd_work.specs.Fit.{IsFit}
use Rattle.dd_work.specs.Settled.{ExtendEach}
use Rattle.dd_read.specs.Fit.{IsFitJob}
use Rattle.dd_server.specs.Settles.{CanSettle}
use Rattle.dd_server.specs.Windows.{AreFitSessions, AreNew, IsFitSession, IsNew}

pub fit-placed : (s : SymbolLists) (job : Job) → IsFitJob s job → IsPlaced job
fit-placed s job f = record {
  asked = f.asked;
  declared = accepted-declared job.pinned f.accepted;
  apart = λ i v at. (f.accepted i v at).others;
  relevant = f.relevant;
}

pub fit-job : (s : SymbolLists) (job : Job) → IsFitJob s job → IsFit job
fit-job s job f = record {
  placed = fit-placed s job f;
  few = f.few;
  small = λ i rel. All-weaker (λ (r : Rule). IsSmall request_limits r.target) HasSmallTarget (λ r h. record { nodes = h.nodes; depth = h.depth }) (all_onto job.pinned i) (f.targets i);
}

pub can-settle : (s : SymbolLists) (board : List SessionView) → AreNew s board → CanSettle board
can-settle s board h = (
  λ n v at. fit-job s v.job (All-at SessionView (IsNew s) board n v h at).0,
  λ n v at going t task here. free t task (sym (ap (λ (x : SessionView). slice_get x.tasks t) (All-at SessionView (IsNew s) board n v h at).1) ∙ here),
)
  where
    free : (t : ℕ) (task : Task) → slice_get (new_task Root ∷ []) t ≡ Some task → is_some task.holder ≡ false
    free zero task e = ap (λ (x : Task). is_some x.holder) (sym (same_Some (new_task Root) task e))
    free (suc t) task e = absurd (cc e)

pub fit-sessions : (s : SymbolLists) (board settled : List SessionView) → AreNew s board → ExtendEach board settled → AreFitSessions s settled
fit-sessions s board settled h e = All-from SessionView (IsFitSession s) settled (λ n v at.
    let old = e.each n v at in
    let new = All-at SessionView (IsNew s) board n old.0 h old.1 in
    fit old.0 v new.0 new.1 old.2.job old.2.start)
  where
    fit : (old v : SessionView) → IsFitJob s old.job → old ≡ begun old.job (empty_start old.job.pinned) → v.job ≡ old.job → v.start ≡ old.start → IsFitSession s v
    fit old v f new job start = (
      subst (IsFitJob s) (sym job) f,
      start ∙ ap (λ (x : SessionView). x.start) new ∙ ap (λ (j : Job). empty_start j.pinned) (sym job),
    )
