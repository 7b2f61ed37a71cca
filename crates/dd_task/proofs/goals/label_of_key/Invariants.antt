-- The label has the source of the onto rule, and the complements of the sources of the rules so far.
use Rattle.std.proofs.Common.{◌≡◌, ◌++◌, take}
use Rattle.std.specs.List.{flat_map}
use Rattle.dd_task.specs.Goals.{no_source_of, source_of}
use Rattle.dd_task.proofs.goals.label_of_key.Given as goal

abbrev pub invariant-loop-k : goal.invariant-loop-k
invariant-loop-k l = l.label ≡ source_of l.p l.from l.to l.onto ++ flat_map (no_source_of l.p l.from l.to) (take l.k-index l.into_set)
