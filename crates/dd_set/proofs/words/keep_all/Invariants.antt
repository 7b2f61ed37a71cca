use Rattle.std.proofs.Common.{◌&&◌}
use Rattle.dd_set.proofs.Mixing.{IsMixedBelow}
use Rattle.dd_set.proofs.words.keep_all.Given as goal

abbrev pub invariant-loop-i : goal.invariant-loop-i
invariant-loop-i l = IsMixedBelow (λ x y. x && y) l.initial.a l.b l.a l.i
