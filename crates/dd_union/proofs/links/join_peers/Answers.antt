use Rattle.std.proofs.Common.{ℕ, List, ◌∙◌, ◌++◌, ap₂}
use Rattle.dd_union.specs.Pieces.{Link, joined_from}
use Rattle.dd_union.proofs.Gathered.{gathered-more}
use Rattle.dd_union.proofs.links.join_peers.Goals as goal

pub loop-h-preserved : goal.loop-h-preserved
loop-h-preserved c s at =
    c.in_ok-join_from.ensures s at
    ∙ ap₂ (λ (ls : List Link) (h : ℕ). ls ++ joined_from s c.args.places.now c.args.to c.args.model.now c.args.raised.now h)
    (c.loop-h.invariant s at) c.in-Ok.ensures.1
    ∙ gathered-more (joined_from s c.args.places.now c.args.to c.args.model.now c.args.raised.now) c.args.links.now c.loop-h.h
