use Rattle.std.proofs.Common.{arith}
use Rattle.dd_board.proofs.Marked.{clear-next, clear-end, length-same}
use Rattle.dd_board.proofs.flags.clear.Goals as goal

pub set_wanted-requires : goal.set_wanted-requires
set_wanted-requires c = let l = length-same c.args.tasks.now c.loop-k.tasks c.loop-k.invariant.same in omega (arith, l, c.loop-k-test.true, c.len-k-end.ensures)

pub loop-k-preserved : goal.loop-k-preserved
loop-k-preserved c = clear-next c.args.tasks.now c.loop-k.tasks c.set_wanted.new.tasks c.loop-k.k c.loop-k.invariant
    (let l = length-same c.args.tasks.now c.loop-k.tasks c.loop-k.invariant.same in omega (arith, l, c.loop-k-test.true, c.len-k-end.ensures)) c.set_wanted.ensures

pub returns-clause-none : goal.returns-clause-none
returns-clause-none c = clear-end c.args.tasks.now c.loop-k.tasks c.loop-k.k c.loop-k.invariant (omega (arith, c.loop-k-test.false, c.len-k-end.ensures))
