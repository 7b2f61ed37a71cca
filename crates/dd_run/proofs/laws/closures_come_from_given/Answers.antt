use Rattle.dd_run.proofs.Givens.{closure-comes}
use Rattle.dd_run.proofs.laws.closures_come_from_given.Goals as goal

pub returns : goal.returns
returns c = closure-comes
