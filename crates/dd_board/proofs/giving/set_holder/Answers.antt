use Rattle.std.proofs.Common.{◌∙◌, ap, set, length, arith}
use Rattle.dd_board.specs.Sessions.{with_holder}
use Rattle.dd_board.specs.View.{change_at}
use Rattle.dd_board.specs.declared.session.Slot.{Slot}
use Rattle.dd_board.proofs.Slots.{set-changes}
use Rattle.dd_board.proofs.giving.set_holder.Goals as goal

pub returns : goal.returns
returns c = ap (λ (x : Slot). set c.tasks.inside.list.items c.args.t (with_holder c.args.holder x)) c.index_mut.ensures.value
    ∙ (set-changes (with_holder c.args.holder) c.tasks.inside.list.items c.args.t c.index_mut.result.now
    (omega (arith, c.requires, ap length c.tasks.view_is)) ∙ ap (λ xs. change_at (with_holder c.args.holder) xs c.args.t) c.tasks.view_is)
