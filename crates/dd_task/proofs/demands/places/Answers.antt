use Rattle.std.proofs.Common.{◌∙◌, ◌++◌, ◌∷◌, [], ap, ap₂, cond}
use Rattle.dd_task.specs.Tables.{says, taken_as}
use Rattle.dd_task.proofs.Tabled.{places-next}
use Rattle.dd_task.proofs.demands.places.Goals as goal

pub loop-k-preserved : goal.loop-k-preserved
loop-k-preserved c =
    let said = c.is_said.ensures ∙ ap (λ row. taken_as c.args.wanted (says c.args.x row)) c.as_slice.ensures in
    c.in_ok-push_where.ensures
    ∙ ap₂ (λ ps qs. ps ++ qs) c.loop-k.invariant (ap₂ (λ b n. cond b (n ∷ []) []) said c.in-Ok.ensures.1)
    ∙ places-next c.args.wanted c.args.x c.args.rows.now c.loop-k.k c.index-rows-k.result c.loop-k-test.true c.index-rows-k.is
