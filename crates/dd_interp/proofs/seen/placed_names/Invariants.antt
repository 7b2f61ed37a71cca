use Rattle.std.proofs.Common.{take}
use Rattle.dd_interp.specs.SeenLists.{AreNamesSeen}
use Rattle.dd_interp.proofs.seen.placed_names.Given as goal

abbrev pub invariant-loop-p : goal.invariant-loop-p
invariant-loop-p l = AreNamesSeen l.elements (take l.p-index l.names) l.seen.items
