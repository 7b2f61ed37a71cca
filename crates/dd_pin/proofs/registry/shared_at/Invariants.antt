use Rattle.std.proofs.Common.{◌≡◌, get_or, []}
use Rattle.std.specs.Prelude.{map}
use Rattle.std.specs.List.{range_with_len}
use Rattle.dd_peer.specs.Versions.{empty_version}
use Rattle.dd_pin.proofs.registry.shared_at.Given as goal

abbrev pub invariant-loop-peer : goal.invariant-loop-peer
invariant-loop-peer l = l.peers ≡ map (λ k. get_or (get_or l.versions k []) (get_or l.numbers k 0) empty_version) (range_with_len 0 l.peer)
