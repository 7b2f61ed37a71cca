-- What was looked at so far.
use Rattle.dd_board.specs.Flags.{IsSpread, Changes, Closes}
use Rattle.dd_board.proofs.flags.spread.Given as goal

abbrev pub invariant-loop-k : goal.invariant-loop-k
invariant-loop-k l = record {
  spread : IsSpread l.initial.tasks l.tasks;
  changes : Changes l.has_more l.initial.tasks l.tasks;
  closes : Closes l.has_more l.tasks l.k;
}
