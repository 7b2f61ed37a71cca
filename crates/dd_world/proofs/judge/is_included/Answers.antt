use Rattle.dd_world.specs.Sketches.{world_of}
use Rattle.dd_world.proofs.Judging.{included}
use Rattle.dd_world.proofs.judge.is_included.Goals as goal

pub returns : goal.returns
returns c = included (world_of c.args.s.now) c.args.peer c.args.left.now c.args.right.now c.in_ok-left.left c.in_ok-right.right c.in_ok-left.ensures c.in_ok-right.ensures c.is_subset.result c.is_subset.ensures
