use Rattle.dd_board.proofs.Marked.{anew}
use Rattle.dd_board.proofs.flags.renew.Goals as goal

pub returns : goal.returns
returns c = anew c.args.s.now c.renew_due.new.s c.renew_wanted.new.tasks c.renew_wanted.ensures.same c.renew_wanted.ensures.wanted c.renew_due.ensures
