use Rattle.std.proofs.Common.{rules}
use Rattle.dd_server.proofs.serve.end.Goals as goal

pub returns-in-Ok-clause-ends : goal.returns-in-Ok-clause-ends
returns-in-Ok-clause-ends g c = search rules
