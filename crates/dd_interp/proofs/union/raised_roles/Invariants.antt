use Rattle.std.proofs.Common.{◌≡◌, map, take}
use Rattle.dd_interp.specs.Union.{raise_role}
use Rattle.dd_interp.proofs.union.raised_roles.Given as goal

abbrev pub invariant-loop-t : goal.invariant-loop-t
invariant-loop-t l = l.raised.items ≡ map (raise_role l.by) (take l.t-index l.roles)
