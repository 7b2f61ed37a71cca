use Rattle.std.proofs.Common.{take}
use Rattle.dd_interp.specs.SeenLists.{AreRolesSeen}
use Rattle.dd_interp.proofs.seen.placed_roles.Given as goal

abbrev pub invariant-loop-t : goal.invariant-loop-t
invariant-loop-t l = AreRolesSeen l.elements (take l.t-index l.roles) l.seen.items
