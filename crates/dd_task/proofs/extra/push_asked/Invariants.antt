-- What the rules of the peers so far ask is there.
use Rattle.std.proofs.Common.{◌≡◌, ◌++◌, take}
use Rattle.std.specs.List.{flat_map}
use Rattle.dd_task.specs.Closure.{asked_by}
use Rattle.dd_task.proofs.extra.push_asked.Given as goal

abbrev pub invariant-loop-k : goal.invariant-loop-k
invariant-loop-k l = l.extra ≡ l.initial.extra ++ flat_map (asked_by l.p l.peer) (take l.k-index l.keepers)
