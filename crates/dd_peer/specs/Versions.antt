-- Versions and pinned sets that can be numbered, and the version before the first put.
use Rattle.std.specs.Prelude.{◌+◌, ◌^◌, ◌<◌, All, [], length}
use Rattle.dd_peer.specs.declared.version.PeerVersion.{PeerVersion}
use Rattle.dd_peer.specs.declared.version.Pinned.{Pinned}

-- the version of a peer before its first put
abbrev pub empty_version : PeerVersion
empty_version = record { axioms = []; into = []; onto = [] }

-- A u32 is enough to number the axioms of the version, and its rules. No version in a memory of ours has more.
pub record IsNumbered (v : PeerVersion) : Type 0 where
  pub axioms : length v.axioms < 2 ^ 32
  pub rules : length v.into + length v.onto < 2 ^ 32

-- a u32 is enough to number the peers of the pinned set, and what each of its versions has
pub record AreNumbered (p : Pinned) : Type 0 where
  pub peers : length p.peers < 2 ^ 32
  pub versions : All IsNumbered p.peers
