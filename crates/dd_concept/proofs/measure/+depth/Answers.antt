use Rattle.std.proofs.Common.{◌≡◌, ◌∙◌, ◌+◌, max, ap, arith, ⊎_elim}
use Rattle.dd_concept.specs.Counts.{depth_of}
use Rattle.dd_concept.proofs.Equations.{depth_of-And, depth_of-Or}
use Rattle.dd_concept.proofs.measure.+depth.Goals as goal

pub returns-in-And : goal.returns-in-And
returns-in-And t c =
    let d = c.in-And.d in
    let e = c.in-And.e in
    let whole : depth_of c.args.c.now ≡ max (depth_of d) (depth_of e) + 1 = ⊎_elim (λ is. ap depth_of is ∙ depth_of-And d e) (λ is. ap depth_of is ∙ depth_of-Or d e) c.in-And.is in
    let left : depth_of c.get.result.now ≡ depth_of d = ap depth_of c.get.ensures in
    let right : depth_of c.get-in-And.result.now ≡ depth_of e = ap depth_of c.get-in-And.ensures in
    omega arith
