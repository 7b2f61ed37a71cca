use Rattle.std.proofs.Common.{◌∙◌, arith, sym}
use Rattle.dd_board.proofs.Boarding.{tasks-are}
use Rattle.dd_board.proofs.board.Board.tasks.Goals as goal

pub overflow_cast-result : goal.overflow_cast-result
overflow_cast-result c = let few = (c.self.inside.kept c.args.session c.session_in.result.now c.session_in.ensures).few_tasks in omega (arith, few, c.len.ensures)

pub returns : goal.returns
returns c = c.len.ensures ∙ sym (tasks-are c.self.inside.sessions.items c.args.self.now c.args.session c.session_in.result.now c.self.view_is c.session_in.ensures)
