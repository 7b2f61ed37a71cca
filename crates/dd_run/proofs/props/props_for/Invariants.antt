-- The numbers of the propagations so far.
use Rattle.std.proofs.Common.{◌≡◌, take}
use Rattle.std.specs.List.{flat_map}
use Rattle.dd_run.specs.Numbers.{prop_numbers}
use Rattle.dd_run.proofs.props.props_for.Given as goal

abbrev pub invariant-loop-prop : goal.invariant-loop-prop
invariant-loop-prop l = l.list ≡ flat_map (prop_numbers l.compiled.concepts l.p l.peer) (take l.prop-index l.view)
