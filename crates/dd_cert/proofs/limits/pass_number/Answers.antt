use Rattle.std.proofs.Common.{rules}
use Rattle.dd_cert.proofs.limits.pass_number.Goals as goal

pub returns-then-n-gt-LARGEST_INDEX : goal.returns-then-n-gt-LARGEST_INDEX
returns-then-n-gt-LARGEST_INDEX c = search rules
