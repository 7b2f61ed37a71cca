use Rattle.std.proofs.Common.{subst, map, List, IfOk}
use Rattle.dd_board.specs.Posts.{Posts}
use Rattle.dd_board.specs.Sessions.{session_view}
use Rattle.dd_board.specs.View.{SessionView}
use Rattle.dd_board.proofs.board.Board.post.Goals as goal

pub returns-clause-posted : goal.returns-clause-posted
returns-clause-posted c = subst (λ (v : List SessionView). IfOk c.post_ticket.result (λ p. Posts v (map session_view c.post_ticket.new.sessions.items) c.args.ticket c.args.verdict p))
    c.self.view_is c.post_ticket.ensures.posted
