use Rattle.std.proofs.Common.{subst, sym}
use Rattle.dd_peer.specs.Marks.{MarksRelevant}
use Rattle.dd_peer.proofs.Listed.{listed-relevant}
use Rattle.dd_peer.proofs.relevant.relevant_of.Goals as goal

pub returns : goal.returns
returns c = listed-relevant c.args.p.now c.args.peer c.as_slice.result.now c.in_ok-list.list.items
    (subst (MarksRelevant c.args.p.now c.args.peer) (sym c.as_slice.ensures.value) c.in_ok-marks.ensures) c.in_ok-list.ensures
