use Rattle.std.proofs.Common.{rules}
use Rattle.dd_tests.proofs.versions.version.Goals as goal

pub returns : goal.returns
returns c = search rules
