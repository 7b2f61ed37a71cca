use Rattle.std.proofs.Common.{Ok, rules}
use Rattle.dd_peer.proofs.Accepted.{accepted}
use Rattle.dd_peer.proofs.version.PeerVersion.check.Goals as goal

pub returns-in-None-clause-accepted : goal.returns-in-None-clause-accepted
returns-in-None-clause-accepted c = accepted c.args.self.now c.args.peers c.args.own (Ok tt) (search rules)
