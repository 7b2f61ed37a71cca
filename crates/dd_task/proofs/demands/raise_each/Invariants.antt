-- The keys of the rules so far are there.
use Rattle.std.proofs.Common.{◌≡◌, map, take}
use Rattle.std.specs.List.{fold}
use Rattle.dd_task.specs.Demands.{with_key}
use Rattle.dd_task.specs.declared.job.Key.TheVariants.{Asked}
use Rattle.dd_task.proofs.demands.raise_each.Given as goal

abbrev pub invariant-loop-o : goal.invariant-loop-o
invariant-loop-o l = l.keys ≡ fold with_key l.initial.keys (map (λ o. Asked l.from l.peer o l.set) (take l.o-index l.asked))
