use Rattle.std.proofs.Common.{rules}
use Rattle.dd_server.proofs.look.found.Goals as goal

pub returns-in-Ok-clause-replies : goal.returns-in-Ok-clause-replies
returns-in-Ok-clause-replies c = search rules
