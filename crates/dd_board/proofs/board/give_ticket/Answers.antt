use Rattle.std.proofs.Common.{subst, map, List}
use Rattle.dd_board.specs.declared.session.Session.{Session}
use Rattle.dd_board.specs.Posts.{IsTaken}
use Rattle.dd_board.specs.Holders.{NotTakenAs}
use Rattle.dd_board.specs.Sessions.{session_view}
use Rattle.dd_board.proofs.Boarding.{refused-back}
use Rattle.dd_board.proofs.board.give_ticket.Goals as goal

pub returns-in-Some-clause-gives : goal.returns-in-Some-clause-gives
returns-in-Some-clause-gives c = refused-back (map session_view c.args.sessions.now.items) c.args.t.now c.in-Some.refused
    (subst (λ (xs : List Session). NotTakenAs (map session_view xs) c.args.t.now c.in-Some.refused) c.as_slice.ensures.value (c.refusal.ensures.refused c.in-Some.refused c.in-Some.is))

pub give_at-requires-clause-taken : goal.give_at-requires-clause-taken
give_at-requires-clause-taken c = subst (λ (xs : List Session). IsTaken (map session_view xs) c.args.t.now) c.as_slice.ensures.value (c.refusal.ensures.taken c.in_default.is)

pub returns-clause-gives : goal.returns-clause-gives
returns-clause-gives c = (subst (λ (xs : List Session). IsTaken (map session_view xs) c.args.t.now) c.as_slice.ensures.value (c.refusal.ensures.taken c.in_default.is), c.give_at.ensures.given)
