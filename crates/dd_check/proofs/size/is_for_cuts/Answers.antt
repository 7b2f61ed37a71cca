use Rattle.std.proofs.Common.{◌∙◌, sym, arith}
use Rattle.dd_concept.specs.Counts.{node_count}
use Rattle.dd_check.proofs.Sizes.{depth_of-le, room-there}
use Rattle.dd_check.proofs.size.is_for_cuts.Goals as goal

pub depth-requires : goal.depth-requires
depth-requires c =
    let few = room-there 1000 (node_count c.args.c.now) c.in-Some.field-0 (sym c.room_left.ensures ∙ c.in-Some.is) in
    let flat = depth_of-le c.args.c.now in omega (arith, few, flat)
