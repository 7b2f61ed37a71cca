-- The closures of the peers so far are not too large.
use Rattle.std.proofs.Common.{◌≡◌, ◌<◌, ℕ, slice_get, Some}
use Rattle.dd_run.specs.Fit.{HasFewConcepts}
use Rattle.dd_run.proofs.closures.check_closures.Given as goal

abbrev pub invariant-loop-peer : goal.invariant-loop-peer
invariant-loop-peer l = (k j : ℕ) → k < l.peer-index → slice_get l.job.relevant k ≡ Some j → HasFewConcepts l.job j
