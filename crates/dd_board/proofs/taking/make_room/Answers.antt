use Rattle.std.proofs.Common.{refl, ap, List}
use Rattle.dd_board.specs.declared.event.Event.{Event}
use Rattle.dd_board.specs.Sessions.{session_view}
use Rattle.dd_board.proofs.Drawing.{roomier}
use Rattle.dd_board.proofs.taking.make_room.Goals as goal

pub returns-clause-kept : goal.returns-clause-kept
returns-clause-kept c = roomier c.args.s.now (record c.args.s.now { journal = c.reserve.new.journal }) c.requires
    (ap (λ (j : List Event). record (session_view c.args.s.now) { journal = j }) c.reserve.ensures.items) refl refl refl refl refl c.reserve.ensures.items c.reserve.ensures.capacity
