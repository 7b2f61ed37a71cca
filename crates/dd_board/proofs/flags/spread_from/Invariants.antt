-- What was looked at so far.
use Rattle.dd_board.specs.Flags.{IsSpread, Changes, Reaches}
use Rattle.dd_board.proofs.flags.spread_from.Given as goal

abbrev pub invariant-loop-j : goal.invariant-loop-j
invariant-loop-j l = record {
  spread : IsSpread l.initial.tasks l.tasks;
  changes : Changes l.has_more l.initial.tasks l.tasks;
  reaches : Reaches l.has_more l.tasks l.k l.j;
}
