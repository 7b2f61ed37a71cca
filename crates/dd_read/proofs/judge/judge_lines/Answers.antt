use Rattle.dd_read.proofs.Judging.{judged_lines}
use Rattle.dd_read.proofs.judge.judge_lines.Goals as goal

pub returns : goal.returns
returns c = judged_lines c.args.id (record { pinned = c.args.pinned.now; query = c.args.query.now }) c.args.lines.now c.check_lines-verdict.result c.judged_lines.result
    c.check_lines-verdict.ensures.derives c.check_lines-verdict.ensures.fault c.judged_lines.ensures
