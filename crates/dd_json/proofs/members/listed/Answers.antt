use Rattle.std.proofs.Common.{rules}
use Rattle.dd_json.proofs.members.listed.Goals as goal

pub returns-else-has : goal.returns-else-has
returns-else-has c = search rules
