use Rattle.std.proofs.Common.{rules}
use Rattle.dd_peer.proofs.version.PeerVersion.onto_of.Goals as goal

pub returns : goal.returns
returns c = search rules
