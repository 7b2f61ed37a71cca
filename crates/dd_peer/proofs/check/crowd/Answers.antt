use Rattle.std.proofs.Common.{rules}
use Rattle.dd_peer.proofs.check.crowd.Goals as goal

pub returns : goal.returns
returns c = search rules
