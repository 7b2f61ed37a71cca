use Rattle.std.proofs.Common.{rules}
use Rattle.dd_world.proofs.check.judge.Goals as goal

pub returns-then-is_included : goal.returns-then-is_included
returns-then-is_included c = search rules
