use Rattle.dd_world.proofs.Counters.{judged_err, judged_ok}
use Rattle.dd_world.proofs.check.check_world.Goals as goal

pub returns-clause-counter : goal.returns-clause-counter
returns-clause-counter c = judged_ok c.args.p.now c.args.q.now c.args.w.now c.judge.result c.judge.ensures

pub returns-clause-fault : goal.returns-clause-fault
returns-clause-fault c = judged_err c.args.p.now c.args.q.now c.args.w.now c.judge.result c.judge.ensures
