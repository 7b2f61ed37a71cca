use Rattle.std.proofs.Common.{arith}
use Rattle.dd_set.proofs.Comparing.{within-from_zero}
use Rattle.dd_rules.proofs.Pending.{lowest}
use Rattle.dd_rules.proofs.saturate.next_in.Goals as goal

pub returns-then-rest-eq0-clause-none : goal.returns-then-rest-eq0-clause-none
returns-then-rest-eq0-clause-none c _ = within-from_zero c.args.word c.args.handled (omega arith) c.if-rest-eq0.true

pub returns-clause-some : goal.returns-clause-some
returns-clause-some c = lowest c.args.word c.args.handled (omega arith) (omega arith) (omega (arith, c.if-rest-eq0.false))
