-- The pairs are those of the peers so far.
use Rattle.std.proofs.Common.{◌≡◌, take}
use Rattle.dd_cache.specs.Keys.{versions_at}
use Rattle.dd_cache.proofs.key.versions_of.Given as goal

abbrev pub invariant-loop-peer : goal.invariant-loop-peer
invariant-loop-peer l = l.pairs.items ≡ versions_at l.versions (take l.peer-index l.relevant)
