-- A board on which a session is opened, and when its job is fit.
use Rattle.std.proofs.Common.{◌≡◌, ◌∙◌, ◌⊎◌, ◌<◌, ℕ, zero, suc, true, false, List, [], ◌∷◌, ◌++◌, All, length, Some, ap, subst, sym, inl, inr}
use Rattle.std.specs.List.{slice_get}
use Rattle.std.specs.Option.{is_some}
use Rattle.std.proofs.lemmas.Option.{same_Some}
use Rattle.dd_close.specs.Fits.{HasSmallTarget}
use Rattle.dd_peer.specs.declared.version.PeerVersion.{PeerVersion}
use Rattle.dd_peer.specs.Refusals.{IsAccepted}
use Rattle.dd_peer.specs.Relevant.{AreRelevant, ComeFromBelow, is_in}
use Rattle.dd_task.specs.declared.job.Job.{Job}
use Rattle.dd_task.specs.declared.job.Key.TheVariants.{Root}
use Rattle.dd_task.specs.Rules.{all_onto}
use Rattle.dd_task.proofs.Places.{among-at, no_none, All-at, All-from}
use Rattle.dd_board.specs.Fit.{IsPlaced}
use Rattle.dd_board.specs.Legal.{begun, empty_start}
use Rattle.dd_board.specs.Steps.{new_task}
use Rattle.dd_board.specs.View.{Task, SessionView}
use Rattle.dd_run.specs.Fit.{HasFewConcepts}
use Rattle.dd_work.specs.Fit.{IsFit, AreFit}
use Rattle.dd_work.specs.Settled.{HasNothingHeld}

end-item : {A : Type 0} (xs : List A) (x y : A) (n : ℕ) → slice_get (xs ++ x ∷ []) n ≡ Some y → (slice_get xs n ≡ Some y) ⊎ (y ≡ x)
end-item [] x y zero e = inr (sym (same_Some x y e))
end-item [] x y (suc n) e = cc
end-item (z ∷ xs) x y zero e = inl e
end-item (z ∷ xs) x y (suc n) e = end-item xs x y n e

abbrev pub opened : Job → SessionView
opened job = begun job (empty_start job.pinned)

pub open-fit : (old : List SessionView) (job : Job) → AreFit old → IsFit job → AreFit (old ++ begun job (empty_start job.pinned) ∷ [])
open-fit old job fit is n s at = elim (end-item old (opened job) s n at) [
  | inl h ↦ fit n s h
  | inr h ↦ subst (λ (v : SessionView). IsFit v.job) (sym h) is
]

root-free : (t : ℕ) (task : Task) → slice_get (new_task Root ∷ []) t ≡ Some task → is_some task.holder ≡ false
root-free zero task e = ap (λ (x : Task). is_some x.holder) (sym (same_Some (new_task Root) task e))
root-free (suc t) task e = cc

pub open-free : (old : List SessionView) (job : Job) → HasNothingHeld old → HasNothingHeld (old ++ begun job (empty_start job.pinned) ∷ [])
open-free old job free n s at going t task task_at = elim (end-item old (opened job) s n at) [
  | inl h ↦ free n s h going t task task_at
  | inr h ↦ root-free t task (ap (λ (v : SessionView). slice_get v.tasks t) (sym h) ∙ task_at)
]

-- without sessions

pub none-fit : (board : List SessionView) → board ≡ [] → AreFit board
none-fit board e n s at = absurd (no_none SessionView s (sym (ap (λ (b : List SessionView). slice_get b n) e) ∙ at))

pub none-free : (board : List SessionView) → board ≡ [] → HasNothingHeld board
none-free board e n s at going t task task_at = absurd (no_none SessionView s (sym (ap (λ (b : List SessionView). slice_get b n) e) ∙ at))

-- ---- when a job is fit

-- where its versions are accepted
pub placed-by : (job : Job) → ((i : ℕ) (v : PeerVersion) → slice_get job.pinned.peers i ≡ Some v → IsAccepted v (length job.pinned.peers) i)
    → job.query.peer < length job.pinned.peers → AreRelevant job.pinned job.query.peer job.relevant → IsPlaced job
placed-by job accepted asked relevant = record {
  asked = asked;
  declared = All-from PeerVersion (ComeFromBelow (length job.pinned.peers)) job.pinned.peers (λ n v at. (accepted n v at).declared);
  apart = λ i v at. (accepted i v at).others;
  relevant = relevant;
}

-- what is tested of each relevant peer
pub few-by : (job : Job) → All (HasFewConcepts job) job.relevant → (i : ℕ) → is_in job.relevant i ≡ true → HasFewConcepts job i
few-by job few i in_list =
    let at = among-at job.relevant i in_list in
    All-at ℕ (HasFewConcepts job) job.relevant at.0 i few at.1

pub fit-by : (job : Job) → ((i : ℕ) (v : PeerVersion) → slice_get job.pinned.peers i ≡ Some v → IsAccepted v (length job.pinned.peers) i)
    → job.query.peer < length job.pinned.peers → AreRelevant job.pinned job.query.peer job.relevant → All (HasFewConcepts job) job.relevant
    → ((i : ℕ) → All HasSmallTarget (all_onto job.pinned i)) → IsFit job
fit-by job accepted asked relevant few small = record {
  placed = placed-by job accepted asked relevant;
  few = few-by job few;
  small = λ i _. small i;
}
