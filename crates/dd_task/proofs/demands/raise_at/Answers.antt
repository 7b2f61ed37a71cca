use Rattle.std.proofs.Common.{◌∙◌, ap, ap₂}
use Rattle.std.specs.List.{fold}
use Rattle.dd_task.specs.Demands.{with_key}
use Rattle.dd_task.specs.Tables.{raised_at_table, raised_by_table}
use Rattle.dd_task.proofs.Tabled.{gathered-next, table-at}
use Rattle.dd_task.proofs.demands.raise_at.Goals as goal

pub loop-h-preserved : goal.loop-h-preserved
loop-h-preserved c =
    c.in_ok-raise_from.ensures
    ∙ ap₂ (fold with_key) c.loop-h.invariant
    (ap (λ from. raised_by_table from c.args.peer c.args.x c.index-tables-h.result) c.in-Ok.ensures.1
    ∙ table-at c.args.tables.now c.args.peer c.args.x c.loop-h.h c.index-tables-h.result c.loop-h-test.true c.index-tables-h.is)
    ∙ gathered-next with_key c.args.keys.now (raised_at_table c.args.tables.now c.args.peer c.args.x) c.loop-h.h
