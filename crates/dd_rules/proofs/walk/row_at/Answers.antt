use Rattle.std.proofs.Common.{sym}
use Rattle.dd_rules.proofs.Visiting.{row-is}
use Rattle.dd_rules.proofs.walk.row_at.Goals as goal

pub returns-in-Some-clause-concept : goal.returns-in-Some-clause-concept
returns-in-Some-clause-concept c = row-is c.args.rows.now.keys c.args.n c.in-Some.row.now c.requires.rows c.requires.within (sym c.in-Some.ensures.key)
