use Rattle.std.proofs.Common.{sym}
use Rattle.dd_peer.proofs.Crowds.{first_crowd-at}
use Rattle.dd_peer.proofs.check.crowded.Goals as goal

pub returns-in-Some : goal.returns-in-Some
returns-in-Some c =
    sym (first_crowd-at c.args.v.now c.loop-from.from c.in-Some.count c.args.peers c.loop-from.invariant (sym c.in-Some.ensures) c.loop-from-test.true)
