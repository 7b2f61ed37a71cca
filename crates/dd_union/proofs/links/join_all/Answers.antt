use Rattle.std.proofs.Common.{List, ◌∙◌, ◌++◌, [], ap}
use Rattle.dd_union.specs.Pieces.{Link, joined_at}
use Rattle.dd_union.proofs.Gathered.{gathered-more}
use Rattle.dd_union.proofs.links.join_all.Goals as goal

pub loop-t-preserved : goal.loop-t-preserved
loop-t-preserved c s at =
    c.in_ok-join_at.ensures s at
    ∙ ap (λ (ls : List Link). ls ++ joined_at s c.args.places.now c.loop-t.t) (c.loop-t.invariant s at)
    ∙ gathered-more (joined_at s c.args.places.now) [] c.loop-t.t
