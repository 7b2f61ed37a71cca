use Rattle.std.proofs.Common.{◌∙◌, [], ap}
use Rattle.std.specs.List.{fold}
use Rattle.dd_task.specs.Demands.{with_key}
use Rattle.dd_task.specs.Tables.{raised_in}
use Rattle.dd_task.proofs.Tabled.{gathered-next}
use Rattle.dd_task.proofs.demands.raised.Goals as goal

pub loop-x-preserved : goal.loop-x-preserved
loop-x-preserved c =
    c.in_ok-raise_at.ensures ∙ ap (λ keys. fold with_key keys (raised_in c.args.tables.now c.args.peer c.loop-x.x)) c.loop-x.invariant
    ∙ gathered-next with_key [] (raised_in c.args.tables.now c.args.peer) c.loop-x.x
