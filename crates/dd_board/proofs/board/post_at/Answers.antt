use Rattle.dd_board.proofs.board.post_at.Goals as goal

pub closed_verdict-requires-clause-going : goal.closed_verdict-requires-clause-going
closed_verdict-requires-clause-going c = c.is_going_at.ensures.0 c.if-not-is_going_at.false

pub open_verdict-requires-clause-going : goal.open_verdict-requires-clause-going
open_verdict-requires-clause-going c = c.is_going_at.ensures.0 c.if-not-is_going_at.false

pub spent_verdict-requires-clause-going : goal.spent_verdict-requires-clause-going
spent_verdict-requires-clause-going c = c.is_going_at.ensures.0 c.if-not-is_going_at.false
