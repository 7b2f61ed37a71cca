use Rattle.std.proofs.Common.{rules}
use Rattle.dd_server.proofs.reply.reply_with.Goals as goal

pub returns-in-Yes-clause-replies : goal.returns-in-Yes-clause-replies
returns-in-Yes-clause-replies c = search rules
