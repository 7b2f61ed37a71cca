use Rattle.std.proofs.Common.{arith}
use Rattle.dd_board.proofs.Boarding.{taken-low}
use Rattle.dd_board.proofs.Postings.{going-at}
use Rattle.dd_board.proofs.board.is_going_at.Goals as goal

pub session_in-requires : goal.session_in-requires
session_in-requires c = let low = taken-low c.args.sessions.now.items c.args.t.now c.requires.taken in omega (arith, low, c.session.ensures)

pub is_going-requires : goal.is_going-requires
is_going-requires c = c.requires.kept c.session.result c.session_in.result.now c.session_in.ensures

pub returns : goal.returns
returns c = going-at c.args.sessions.now.items c.args.t.now c.session.result c.session_in.result.now c.is_going.result c.session.ensures c.session_in.ensures c.is_going.ensures
