use Rattle.std.proofs.Common.{◌∙◌, ◌++◌, ◌∷◌, [], ap, sym}
use Rattle.dd_task.proofs.Tabled.{first-range-end}
use Rattle.dd_union.proofs.rows.elements.Goals as goal

pub loop-x-preserved : goal.loop-x-preserved
loop-x-preserved c = c.in_ok-push.ensures.items ∙ ap (λ xs. xs ++ c.loop-x.x ∷ []) c.loop-x.invariant ∙ sym (first-range-end c.loop-x.x)
