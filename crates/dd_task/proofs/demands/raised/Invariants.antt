-- The keys of the elements so far.
use Rattle.std.proofs.Common.{◌≡◌, []}
use Rattle.std.specs.List.{flat_map, fold, range_with_len}
use Rattle.dd_task.specs.Demands.{with_key}
use Rattle.dd_task.specs.Tables.{raised_in}
use Rattle.dd_task.proofs.demands.raised.Given as goal

abbrev pub invariant-loop-x : goal.invariant-loop-x
invariant-loop-x l = l.keys ≡ fold with_key [] (flat_map (raised_in l.tables l.peer) (range_with_len 0 l.x))
