use Rattle.dd_read.proofs.Deciding.{passes_decide}
use Rattle.dd_read.proofs.laws.tests_decide.Goals as goal

pub returns : goal.returns
returns c = passes_decide
