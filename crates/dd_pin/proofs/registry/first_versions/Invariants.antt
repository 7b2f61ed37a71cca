use Rattle.std.proofs.Common.{◌≡◌, ◌∷◌, []}
use Rattle.std.specs.Prelude.{replicate}
use Rattle.dd_peer.specs.Versions.{empty_version}
use Rattle.dd_pin.proofs.registry.first_versions.Given as goal

abbrev pub invariant-loop : goal.invariant-loop
invariant-loop l = l.rows.items ≡ replicate l.counter (empty_version ∷ [])
