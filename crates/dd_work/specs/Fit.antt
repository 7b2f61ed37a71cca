-- Jobs whose goals runs may be asked.
use Rattle.std.specs.Prelude.{◌≡◌, ℕ, true, List, All, Some, slice_get}
use Rattle.dd_close.specs.Fits.{HasSmallTarget}
use Rattle.dd_peer.specs.Relevant.{is_in}
use Rattle.dd_task.specs.declared.job.Job.{Job}
use Rattle.dd_task.specs.Rules.{all_onto}
use Rattle.dd_board.specs.Fit.{IsPlaced}
use Rattle.dd_board.specs.View.{SessionView}
use Rattle.dd_run.specs.Fit.{HasFewConcepts}

-- its rules and peers fit each other; the closures of its relevant peers have few enough concepts, and the targets of the onto rules
-- that these keep are within the limits of requests
pub record IsFit (job : Job) : Type 0 where
  pub placed : IsPlaced job
  pub few : (i : ℕ) → is_in job.relevant i ≡ true → HasFewConcepts job i
  pub small : (i : ℕ) → is_in job.relevant i ≡ true → All HasSmallTarget (all_onto job.pinned i)

-- so are the jobs of all sessions
abbrev pub AreFit : List SessionView → Type 0
AreFit board = (n : ℕ) (s : SessionView) → slice_get board n ≡ Some s → IsFit s.job
