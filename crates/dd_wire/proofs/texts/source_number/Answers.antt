use Rattle.std.proofs.Common.{rules}
use Rattle.dd_wire.proofs.texts.source_number.Goals as goal

pub returns-in-None-number : goal.returns-in-None-number
returns-in-None-number c = search rules
