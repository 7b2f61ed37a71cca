use Rattle.std.proofs.Common.{rules}
use Rattle.dd_world.proofs.shape.is_world_of.Goals as goal

pub returns-then-has_shaped_locals : goal.returns-then-has_shaped_locals
returns-then-has_shaped_locals c = search rules
