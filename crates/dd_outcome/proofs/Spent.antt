-- The run that a journal has, and what a session says whose budget is spent.
use Rattle.std.proofs.Common.{◌≡◌, ◌∙◌, ◌||◌, ℕ, Bool, true, false, List, ◌∷◌, Option, None, Some, ap, refl, subst, sym}
use Rattle.std.specs.List.{list_any, slice_get}
use Rattle.dd_task.specs.declared.verdict.SpentRun.{SpentRun}
use Rattle.dd_answer.specs.declared.answer.Answer.{Answer}
use Rattle.dd_answer.specs.declared.answer.Answer.TheVariants as answer
use Rattle.dd_board.specs.declared.event.Event.{Event}
use Rattle.dd_board.specs.declared.event.Event.TheVariants as event
use Rattle.dd_board.specs.declared.event.Outcome.TheVariants as outcome
use Rattle.dd_board.specs.Legal.{IsLegal, empty_start}
use Rattle.dd_board.specs.Standing.{IsOutcome, is_spent}
use Rattle.dd_board.specs.View.{SessionView}
use Rattle.dd_outcome.specs.Answers.{Answers, IsPostedRun}
use Rattle.dd_outcome.specs.Runs.{IsRunOrMemory, TellsRun, run_of}

-- an event without a run is no spent one
pub no-run : (e : Event) → run_of e ≡ None → is_spent e ≡ false
no-run (event.Take t w n s) h = refl
no-run (event.Closed t n c) h = refl
no-run (event.Opened t n m x) h = refl
no-run (event.Spent t n run) h = cc
no-run (event.Give t n) h = refl

-- the event with this run
pub with-run : (journal : List Event) (k : ℕ) (e : Event) (run : SpentRun) → slice_get journal k ≡ Some e → run_of e ≡ Some run → IsPostedRun journal run
with-run journal k (event.Take t w n s) run at h = cc
with-run journal k (event.Closed t n c) run at h = cc
with-run journal k (event.Opened t n m x) run at h = cc
with-run journal k (event.Spent t n own) run at h =
    record { event = k; task = t; number = n; at = at ∙ ap (λ r. Some (event.Spent t n r)) (let same : own ≡ run = cc in same) }
with-run journal k (event.Give t n) run at h = cc

-- its copy is answered
pub tells : (journal : List Event) (run : SpentRun) (a : Answer) → IsPostedRun journal run → IsRunOrMemory run a → TellsRun journal a
tells journal run (answer.Yes lines) posted h = h
tells journal run (answer.No w) posted h = h
tells journal run (answer.RunSpent copy) posted h = subst (IsPostedRun journal) (sym h) posted
tells journal run (answer.VerdictsSpent n) posted h = h
tells journal run answer.Memory posted h = h

module _ (v : SessionView) (nothing : v.start ≡ empty_start v.job.pinned) (legal : IsLegal v) where
  pub spent-run : IsOutcome v outcome.SpentRun → (a : Answer) → TellsRun v.journal a → Answers v.job a
  spent-run ends (answer.Yes lines) h = absurd h
  spent-run ends (answer.No w) h = absurd h
  spent-run ends (answer.RunSpent run) h = record {
    session = v;
    ended = record { same_job = refl; from_nothing = nothing; legal = legal; ends = ends };
    posted = h;
  }
  spent-run ends (answer.VerdictsSpent n) h = absurd h
  spent-run ends answer.Memory h = tt

  pub spent-verdicts : IsOutcome v outcome.SpentVerdicts → (n : ℕ) → n ≡ v.job.budget.verdicts → Answers v.job (answer.VerdictsSpent n)
  spent-verdicts ends n e = record {
    session = v;
    ended = record { same_job = refl; from_nothing = nothing; legal = legal; ends = ends };
    all = e;
  }
