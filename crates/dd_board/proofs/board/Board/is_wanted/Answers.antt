use Rattle.std.proofs.Common.{◌↔◌, arith, IsTrue}
use Rattle.dd_board.specs.Wanted.{IsWanted}
use Rattle.dd_board.proofs.Boarding.{of-session, session-of-task, tasks-are}
use Rattle.dd_board.proofs.board.Board.is_wanted.Goals as goal

pub session_in-requires : goal.session_in-requires
session_in-requires c = session-of-task c.self.inside.sessions.items c.args.self.now c.args.session c.args.task c.self.view_is c.requires

pub slot_in-requires : goal.slot_in-requires
slot_in-requires c = omega (arith, c.requires, tasks-are c.self.inside.sessions.items c.args.self.now c.args.session c.session_in.result.now c.self.view_is c.session_in.ensures)

pub returns : goal.returns
returns c = of-session (λ v. IsTrue c.slot_in.result.now.is_wanted ↔ IsWanted v c.args.task) c.self.inside.sessions.items c.args.self.now c.args.session c.session_in.result.now c.self.view_is c.session_in.ensures
    ((c.self.inside.kept c.args.session c.session_in.result.now c.session_in.ensures).flags c.args.task c.slot_in.result.now c.slot_in.ensures).wanted
