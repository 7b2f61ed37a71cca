-- The keys at the peers so far are there.
use Rattle.std.proofs.Common.{◌≡◌}
use Rattle.std.specs.List.{flat_map, fold, range_with_len}
use Rattle.dd_task.specs.Demands.{with_key}
use Rattle.dd_task.specs.Tables.{raised_at_table}
use Rattle.dd_task.proofs.demands.raise_at.Given as goal

abbrev pub invariant-loop-h : goal.invariant-loop-h
invariant-loop-h l = l.keys ≡ fold with_key l.initial.keys (flat_map (raised_at_table l.tables l.peer l.x) (range_with_len 0 l.h))
