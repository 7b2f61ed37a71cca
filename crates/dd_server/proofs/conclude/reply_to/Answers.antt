use Rattle.std.proofs.Common.{rules}
use Rattle.dd_server.proofs.conclude.reply_to.Goals as goal

pub returns-in-Ok-clause-keeps : goal.returns-in-Ok-clause-keeps
returns-in-Ok-clause-keeps c = search rules
