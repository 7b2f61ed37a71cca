use Rattle.std.proofs.Common.{rules}
use Rattle.dd_interp.proofs.shape.has_shaped_roles.Goals as goal

pub returns : goal.returns
returns c = search rules
