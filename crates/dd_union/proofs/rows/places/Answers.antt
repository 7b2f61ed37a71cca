use Rattle.std.proofs.Common.{◌∙◌, ◌++◌, ◌∷◌, [], ap, ap₂, cond, false, not}
use Rattle.dd_task.specs.Tables.{says}
use Rattle.dd_task.proofs.Tabled.{places-next}
use Rattle.dd_union.proofs.rows.places.Goals as goal

pub loop-k-preserved : goal.loop-k-preserved
loop-k-preserved c =
    let said = ap not (c.is_said.ensures ∙ ap (says c.args.y) c.as_slice.ensures) in
    c.in_ok-push_where.ensures
    ∙ ap₂ (λ ps qs. ps ++ qs) c.loop-k.invariant (ap₂ (λ b n. cond b (n ∷ []) []) said c.in-Ok.ensures.1)
    ∙ places-next false c.args.y c.args.rows.now c.loop-k.k c.index-rows-k.result c.loop-k-test.true c.index-rows-k.is
