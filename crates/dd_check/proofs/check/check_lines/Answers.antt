use Rattle.dd_check.proofs.Faulty.{judged-err, judged-follows, judged-ok}
use Rattle.dd_check.proofs.check.check_lines.Goals as goal

pub returns-clause-derives : goal.returns-clause-derives
returns-clause-derives c = judged-ok c.args.p.now c.args.q.now c.args.lines.now c.judge.result c.judge.ensures

pub returns-clause-fault : goal.returns-clause-fault
returns-clause-fault c = judged-err c.args.p.now c.args.q.now c.args.lines.now c.judge.result c.judge.ensures

pub returns-clause-follows : goal.returns-clause-follows
returns-clause-follows c = judged-follows c.args.p.now c.args.q.now c.args.lines.now c.judge.result c.judge.ensures
