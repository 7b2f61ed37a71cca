-- Which peer's closure has too many concepts.
use Rattle.std.specs.Prelude.{ℕ, ◌≡◌, ◌<◌, length, slice_get, Some}
use Rattle.dd_task.specs.declared.job.Job.{Job}
use Rattle.dd_run.specs.Fit.{closure_for, HasFewConcepts}

-- The closure of the relevant peer i has count concepts, which are too many, and those of the relevant peers before it in the
-- list are not too large. The list rises, so it is the least such peer.
pub record IsFirstFull (job : Job) (i count : ℕ) : Type 0 where
  pub place : ℕ
  pub relevant : slice_get job.relevant place ≡ Some i
  pub counted : count ≡ length (closure_for job i)
  pub full : 4096 < count
  pub first : (k j : ℕ) → k < place → slice_get job.relevant k ≡ Some j → HasFewConcepts job j
