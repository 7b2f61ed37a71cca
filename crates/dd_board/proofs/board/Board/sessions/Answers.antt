use Rattle.dd_board.proofs.Boarding.{are-legal}
use Rattle.dd_board.proofs.board.Board.sessions.Goals as goal

pub returns-clause-legal : goal.returns-clause-legal
returns-clause-legal c = are-legal c.self.inside.sessions.items c.args.self.now c.self.view_is c.self.inside.kept
