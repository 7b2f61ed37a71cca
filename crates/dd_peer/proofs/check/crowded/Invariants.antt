use Rattle.std.proofs.Common.{◌≡◌, None}
use Rattle.dd_peer.specs.Refusals.{first_crowd}
use Rattle.dd_peer.proofs.check.crowded.Given as goal

abbrev pub invariant-loop-from : goal.invariant-loop-from
invariant-loop-from l = first_crowd l.v l.from ≡ None
