use Rattle.std.proofs.Common.{arith}
use Rattle.dd_board.proofs.Marked.{renewed-start, renewed-next, renewed-end, length-same}
use Rattle.dd_board.proofs.flags.renew_due.Goals as goal

pub loop-k-init : goal.loop-k-init
loop-k-init c = renewed-start c.args.s.now

pub is_task_due-due-requires : goal.is_task_due-due-requires
is_task_due-due-requires c = let l = length-same c.args.s.now.tasks c.loop-k.s.tasks c.loop-k.invariant.same in omega (arith, l, c.loop-k-test.true, c.len-k-end.ensures)

pub set_due-requires : goal.set_due-requires
set_due-requires c = let l = length-same c.args.s.now.tasks c.loop-k.s.tasks c.loop-k.invariant.same in omega (arith, l, c.loop-k-test.true, c.len-k-end.ensures)

pub loop-k-preserved : goal.loop-k-preserved
loop-k-preserved c = renewed-next c.args.s.now c.loop-k.s c.loop-k.k c.is_task_due-due.result c.set_due.new.tasks c.loop-k.invariant c.is_task_due-due.ensures c.set_due.ensures

pub returns : goal.returns
returns c = renewed-end c.args.s.now c.loop-k.s c.loop-k.k c.loop-k.invariant (omega (arith, c.loop-k-test.false, c.len-k-end.ensures))
