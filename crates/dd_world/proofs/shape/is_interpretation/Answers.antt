use Rattle.std.proofs.lemmas.Bool.Decides.{same_from_decides}
use Rattle.dd_world.specs.Tests.{has_shape}
use Rattle.dd_world.proofs.Decided.{decides_shape}
use Rattle.dd_world.proofs.shape.is_interpretation.Goals as goal

pub returns : goal.returns
returns c = same_from_decides c.is_shaped.result (has_shape c.args.local.now) c.is_shaped.ensures (decides_shape c.args.local.now)
