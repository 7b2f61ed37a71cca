-- The tables of the peers so far.
use Rattle.std.proofs.Common.{◌≡◌, map}
use Rattle.std.specs.List.{range_with_len}
use Rattle.dd_task.specs.Tables.{table_of}
use Rattle.dd_task.proofs.demands.tables_at.Given as goal

abbrev pub invariant-loop-h : goal.invariant-loop-h
invariant-loop-h l = l.tables ≡ map (table_of l.p l.peer l.i) (range_with_len 0 l.h)
