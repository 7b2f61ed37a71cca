use Rattle.dd_server.proofs.Saying.{verdicts_hold}
use Rattle.dd_server.proofs.laws.verdicts_hold.Goals as goal

pub returns : goal.returns
returns c = verdicts_hold
