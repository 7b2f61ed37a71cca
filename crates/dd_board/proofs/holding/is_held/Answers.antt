use Rattle.std.proofs.Common.{rules}
use Rattle.dd_board.proofs.Taken.{held-on, held-nowhere}
use Rattle.dd_board.proofs.holding.is_held.Goals as goal

pub returns-in-Some : goal.returns-in-Some
returns-in-Some c = held-on c.args.sessions.now c.args.t.now c.in-Some.s.now c.has_holder.result (search rules) c.has_holder.ensures

pub returns-in-None : goal.returns-in-None
returns-in-None c = held-nowhere c.args.sessions.now c.args.t.now (search rules)
