use Rattle.std.proofs.Common.{◌≡◌, map, take}
use Rattle.dd_interp.specs.Union.{raise_name}
use Rattle.dd_interp.proofs.union.raised_names.Given as goal

abbrev pub invariant-loop-p : goal.invariant-loop-p
invariant-loop-p l = l.raised.items ≡ map (raise_name l.by) (take l.p-index l.names)
