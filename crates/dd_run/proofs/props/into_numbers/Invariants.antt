-- The numbers of the targets so far.
use Rattle.std.proofs.Common.{◌≡◌, take}
use Rattle.std.specs.List.{flat_map}
use Rattle.dd_run.specs.Numbers.{into_number}
use Rattle.dd_run.proofs.props.into_numbers.Given as goal

abbrev pub invariant-loop-k : goal.invariant-loop-k
invariant-loop-k l = l.numbers ≡ flat_map (into_number l.compiled.concepts l.p l.from l.peer) (take l.k-index l.set)
