use Rattle.std.proofs.Common.{take}
use Rattle.dd_set.specs.Words.{has}
use Rattle.dd_interp.proofs.Filling.{HasStarts}
use Rattle.dd_interp.proofs.fill.starts.Given as goal

abbrev pub invariant-loop-t : goal.invariant-loop-t
invariant-loop-t l = HasStarts l.size (has l.ends.words) (take l.t-index l.t-items) l.row
