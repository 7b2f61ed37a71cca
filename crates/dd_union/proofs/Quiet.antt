-- That a session is legal is mere existence, and that a world is a countermodel is decided: so the one gives the other.
use Rattle.std.proofs.Common.{refl}
use Rattle.std.proofs.Math.Logic.{∥∥₁_elim}
use Rattle.std.proofs.Math.Bool.{Bool-set}
use Rattle.dd_world.specs.Faults.{fault_of, judged_by}
use Rattle.dd_world.proofs.Counters.{judged_ok}
use Rattle.dd_board.proofs.Soundness.{sound}
use Rattle.dd_union.specs.Laws.{QuietHasCountermodel}
use Rattle.dd_union.proofs.Countermodel.{is_counter}

pub quiet_counters : QuietHasCountermodel
quiet_counters v start w legal fit quiet union =
    (judged_ok v.job.pinned v.job.query w (judged_by (fault_of v.job.pinned v.job.query w)) refl).0
    (∥∥₁_elim legal (Bool-set _ _) (λ runs.
    (judged_ok v.job.pinned v.job.query w (judged_by (fault_of v.job.pinned v.job.query w)) refl).1
    (is_counter v (sound v.job v.start v runs) quiet.2 start w fit union quiet.0)))
