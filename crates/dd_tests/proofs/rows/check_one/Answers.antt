use Rattle.std.proofs.Common.{rules}
use Rattle.dd_tests.proofs.rows.check_one.Goals as goal

pub returns-in-Ok-false : goal.returns-in-Ok-false
returns-in-Ok-false c = search rules
