use Rattle.std.proofs.Common.{rules, ◌∷◌, [], sym, subst, length}
use Rattle.dd_peer.specs.Relevant.{ComeFromBelow}
use Rattle.dd_peer.specs.Marks.{AreMarked}
use Rattle.dd_peer.proofs.Marking.{walk-start, walk-next, walk-end, last-low, All-at}
use Rattle.dd_peer.proofs.relevant.walk.Goals as goal

pub loop-next-init : goal.loop-next-init
loop-next-init c = walk-start c.args.p.now c.args.peer c.mark.new.marks c.args.marks.now c.mark.new.todo.items c.requires.none
    (subst (λ xs. AreMarked (c.args.peer ∷ []) c.args.marks.now c.mark.new.marks xs c.mark.new.todo.items) c.new-todo.ensures.items c.in_ok-mark.ensures)

pub version_at-requires : goal.version_at-requires
version_at-requires c = last-low c.args.p.now c.args.peer c.loop-next.marks c.loop-next.todo.items c.pop.new.self.items c.in-Some.next c.loop-next.invariant c.in-Some.ensures.items

pub visit-requires : goal.visit-requires
visit-requires c = subst (λ n. ComeFromBelow n c.version_at.result.now) (sym c.loop-next.invariant.size)
    (All-at (ComeFromBelow (length c.args.p.now.peers)) c.args.p.now.peers c.in-Some.next c.version_at.result.now c.requires.rules c.version_at.ensures)

pub loop-next-preserved : goal.loop-next-preserved
loop-next-preserved c = walk-next c.args.p.now c.args.peer c.loop-next.marks c.visit.new.marks c.loop-next.todo.items c.pop.new.self.items c.visit.new.todo.items c.in-Some.next
    c.version_at.result.now c.loop-next.invariant c.in-Some.ensures.items c.version_at.ensures c.in_ok-visit.ensures

pub returns : goal.returns
returns c = walk-end c.args.p.now c.args.peer c.loop-next.marks c.loop-next.todo.items (search rules) c.loop-next.invariant
