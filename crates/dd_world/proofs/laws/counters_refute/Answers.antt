use Rattle.dd_world.proofs.Refutes.{refutes}
use Rattle.dd_world.proofs.laws.counters_refute.Goals as goal

pub returns : goal.returns
returns c = refutes
