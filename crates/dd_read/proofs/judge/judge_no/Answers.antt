use Rattle.std.proofs.Common.{rules}
use Rattle.dd_read.proofs.judge.judge_no.Goals as goal

pub returns : goal.returns
returns c = search rules
