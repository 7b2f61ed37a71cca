use Rattle.std.proofs.Common.{◌&&◌}
use Rattle.dd_set.proofs.Mixing.{IsMixedBelow, without}
use Rattle.dd_set.proofs.words.take_all.Given as goal

abbrev pub invariant-loop-i : goal.invariant-loop-i
invariant-loop-i l = IsMixedBelow without l.initial.a l.b l.a l.i
