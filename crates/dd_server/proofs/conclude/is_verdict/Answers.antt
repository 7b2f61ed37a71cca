use Rattle.std.proofs.Common.{rules}
use Rattle.dd_server.proofs.conclude.is_verdict.Goals as goal

pub returns-in-RunSpent : goal.returns-in-RunSpent
returns-in-RunSpent c = search rules
