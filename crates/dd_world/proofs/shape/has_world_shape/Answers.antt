use Rattle.std.proofs.lemmas.Bool.Decides.{Decides-at}
use Rattle.dd_world.specs.Tests.{is_world}
use Rattle.dd_world.proofs.Decided.{decides_world}
use Rattle.dd_world.proofs.shape.has_world_shape.Goals as goal

pub returns-clause-meaning : goal.returns-clause-meaning
returns-clause-meaning c = Decides-at c.is_world_of.result (is_world c.args.p.now c.args.w.now) c.is_world_of.ensures (decides_world c.args.p.now c.args.w.now)
