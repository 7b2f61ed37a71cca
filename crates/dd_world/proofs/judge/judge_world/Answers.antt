use Rattle.dd_interp.proofs.Results.{if_ok}
use Rattle.dd_world.proofs.Counters.{judged_err, judged_ok}
use Rattle.dd_world.proofs.judge.judge_world.Goals as goal

pub returns-clause-counter : goal.returns-clause-counter
returns-clause-counter c = if_ok c.judge_shaped.result (judged_ok c.args.p.now c.args.q.now c.args.w.now) c.judge_shaped.ensures

pub returns-clause-fault : goal.returns-clause-fault
returns-clause-fault c = if_ok c.judge_shaped.result (judged_err c.args.p.now c.args.q.now c.args.w.now) c.judge_shaped.ensures
