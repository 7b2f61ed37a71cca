use Rattle.dd_outcome.proofs.No.{counters}
use Rattle.dd_outcome.proofs.outcome.countermodel.Goals as goal

pub returns-in-Ok : goal.returns-in-Ok
returns-in-Ok c s at = counters s c.in-Ok.world (c.sessions-legal.ensures.legal c.args.session s at) (c.requires.placed s at) (c.in-Ok.ensures s at)
