use Rattle.std.proofs.Common.{rules}
use Rattle.dd_world.proofs.rules.link_meets_into.Goals as goal

pub returns-then-not-has : goal.returns-then-not-has
returns-then-not-has c = search rules

pub returns-else-not-has : goal.returns-else-not-has
returns-else-not-has c = search rules
