use Rattle.std.proofs.Common.{rules}
use Rattle.dd_peer.proofs.Listed.{pushed-next}
use Rattle.dd_peer.proofs.relevant.listed.Goals as goal

pub loop-k-preserved : goal.loop-k-preserved
loop-k-preserved c = pushed-next c.args.marks.now c.loop-k.k c.in-Ok.peer c.loop-k.list.items c.push_marked.new.list.items (search rules) c.loop-k.invariant c.in_ok-push_marked.ensures
