use Rattle.std.proofs.Common.{rules}
use Rattle.dd_json.proofs.members.maybe_number.Goals as goal

pub returns-in-None-clause-gives : goal.returns-in-None-clause-gives
returns-in-None-clause-gives c = search rules
