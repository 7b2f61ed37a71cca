use Rattle.std.proofs.Common.{subst, map, List}
use Rattle.dd_board.specs.declared.session.Session.{Session}
use Rattle.dd_board.specs.Posts.{IsTaken}
use Rattle.dd_board.specs.Holders.{NotTakenAs}
use Rattle.dd_board.specs.Sessions.{session_view}
use Rattle.dd_board.proofs.Boarding.{refused-post}
use Rattle.dd_board.proofs.board.post_ticket.Goals as goal

pub returns-in-Some-clause-posted : goal.returns-in-Some-clause-posted
returns-in-Some-clause-posted c = refused-post (map session_view c.args.sessions.now.items) c.args.ticket c.args.verdict c.in-Some.refused
    (subst (λ (xs : List Session). NotTakenAs (map session_view xs) c.args.ticket c.in-Some.refused) c.as_slice.ensures.value (c.refusal.ensures.refused c.in-Some.refused c.in-Some.is))

pub post_at-requires-clause-taken : goal.post_at-requires-clause-taken
post_at-requires-clause-taken c = subst (λ (xs : List Session). IsTaken (map session_view xs) c.args.ticket) c.as_slice.ensures.value (c.refusal.ensures.taken c.in_default.is)
