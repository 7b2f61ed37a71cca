use Rattle.std.proofs.Common.{◌∙◌, ap, set, length, arith}
use Rattle.dd_board.specs.Flags.{with_due}
use Rattle.dd_board.specs.View.{change_at}
use Rattle.dd_board.specs.declared.session.Slot.{Slot}
use Rattle.dd_board.proofs.Slots.{set-changes}
use Rattle.dd_board.proofs.flags.set_due.Goals as goal

pub returns : goal.returns
returns c = ap (λ (x : Slot). set c.tasks.inside.list.items c.args.k (with_due c.args.due x)) c.index_mut.ensures.value
    ∙ (set-changes (with_due c.args.due) c.tasks.inside.list.items c.args.k c.index_mut.result.now
    (omega (arith, c.requires, ap length c.tasks.view_is)) ∙ ap (λ xs. change_at (with_due c.args.due) xs c.args.k) c.tasks.view_is)
