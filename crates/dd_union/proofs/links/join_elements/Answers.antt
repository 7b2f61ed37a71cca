use Rattle.std.proofs.Common.{Bool, List, ◌∙◌, ◌+◌, ◌++◌, ◌∷◌, [], ap₂, cond}
use Rattle.dd_union.specs.Pieces.{Link, joined}
use Rattle.dd_union.proofs.Gathered.{gathered-more}
use Rattle.dd_union.proofs.links.join_elements.Goals as goal

pub loop-y-preserved : goal.loop-y-preserved
loop-y-preserved c =
    c.in_ok-push_link.ensures
    ∙ ap₂ (λ (ls : List Link) (b : Bool). ls ++ cond b ((c.args.from.peer, c.args.to.peer, c.args.from.element, c.args.to.start + c.loop-y.y) ∷ []) [])
    c.loop-y.invariant c.raises.ensures
    ∙ gathered-more (joined c.args.rows.now c.args.from c.args.to c.args.onto c.args.set.now) c.args.links.now c.loop-y.y
