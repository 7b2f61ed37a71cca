use Rattle.std.proofs.Common.{◌∷◌, [], sym, subst, set, true}
use Rattle.dd_peer.specs.Marks.{AreMarked}
use Rattle.dd_peer.proofs.Marking.{mark-new}
use Rattle.dd_peer.proofs.relevant.mark.Goals as goal

pub returns : goal.returns
returns c = subst (λ todo. AreMarked (c.args.peer ∷ []) c.args.marks.now (set c.args.marks.now c.args.peer true) c.args.todo.now.items todo)
    (sym c.in_ok-push.ensures.items) (mark-new c.args.marks.now c.args.todo.now.items c.args.peer c.requires c.if-marks-peer.false)
