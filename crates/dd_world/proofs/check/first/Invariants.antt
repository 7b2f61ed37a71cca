-- What is sought among all peers is what is left to be sought among the rest.
use Rattle.std.proofs.Common.{◌≡◌, drop}
use Rattle.dd_world.specs.Kinds.{first_of_kind}
use Rattle.dd_world.proofs.check.first.Given as goal

abbrev pub invariant-loop-peer : goal.invariant-loop-peer
invariant-loop-peer l = first_of_kind l.kind l.w 0 l.p.peers ≡ first_of_kind l.kind l.w l.peer (drop l.peer l.p.peers)
