use Rattle.std.proofs.Common.{take}
use Rattle.dd_interp.proofs.Filling.{HasNamed}
use Rattle.dd_interp.proofs.fill.named.Given as goal

abbrev pub invariant-loop-p : goal.invariant-loop-p
invariant-loop-p l = HasNamed l.size (take l.p-index l.p-items) l.row
