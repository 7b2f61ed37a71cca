use Rattle.std.proofs.Common.{◌∙◌, ◌++◌, ◌∷◌, [], ap, ap₂}
use Rattle.dd_task.specs.Tables.{table_of}
use Rattle.dd_task.proofs.Tabled.{mapped-next}
use Rattle.dd_task.proofs.demands.tables_at.Goals as goal

pub loop-h-preserved : goal.loop-h-preserved
loop-h-preserved c =
    c.in_ok-push.ensures.ok
    ∙ ap₂ (λ tables t. tables ++ t ∷ []) c.loop-h.invariant
    (c.in_ok-table_from.ensures ∙ ap (table_of c.args.p.now c.args.peer c.args.i.now) c.in-Ok.ensures.1)
    ∙ mapped-next (table_of c.args.p.now c.args.peer c.args.i.now) c.loop-h.h
