use Rattle.std.proofs.Common.{subst, length}
use Rattle.dd_board.specs.Flags.{Closes}
use Rattle.dd_board.proofs.Marked.{rooted-start, rooted-next, marked-right}
use Rattle.dd_board.proofs.flags.renew_wanted.Goals as goal

pub loop-init : goal.loop-init
loop-init c = rooted-start c.args.tasks.now c.clear.new.tasks c.want.new.tasks c.want.result c.clear.ensures.same c.clear.ensures.none c.want.ensures.changed c.want.ensures.same

pub returns-clause-wanted : goal.returns-clause-wanted
returns-clause-wanted c = marked-right c.args.tasks.now c.spread.new.tasks
    (rooted-next c.args.tasks.now c.loop.tasks c.spread.new.tasks c.loop.invariant c.spread.ensures.spread)
    (subst (λ b. Closes b c.spread.new.tasks (length c.spread.new.tasks)) c.loop-test.false c.spread.ensures.closes)
