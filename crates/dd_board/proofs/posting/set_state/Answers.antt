use Rattle.std.proofs.Common.{◌∙◌, ap, set, length, arith}
use Rattle.dd_board.specs.Settling.{with_state}
use Rattle.dd_board.specs.View.{change_at}
use Rattle.dd_board.specs.declared.session.Slot.{Slot}
use Rattle.dd_board.proofs.Slots.{set-changes}
use Rattle.dd_board.proofs.posting.set_state.Goals as goal

pub returns : goal.returns
returns c = ap (λ (x : Slot). set c.tasks.inside.list.items c.args.t (with_state c.args.state x)) c.index_mut-slot.ensures.value
    ∙ (set-changes (with_state c.args.state) c.tasks.inside.list.items c.args.t c.index_mut-slot.result.now
    (omega (arith, c.requires, ap length c.tasks.view_is)) ∙ ap (λ xs. change_at (with_state c.args.state) xs c.args.t) c.tasks.view_is)
