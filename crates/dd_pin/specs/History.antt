-- The history of accepted puts, and the pins that name versions in it.
use Rattle.std.specs.Prelude.{◌≡◌, ℕ, ◌<◌, ◌≤◌, ◌==◌, ◌&&◌, nat_le, Bool, List, ◌∷◌, length, map, filter, All, slice_get, Some, refl}
use Rattle.std.specs.Coded.{Coded, code_by, coded×, coded_list, coded_ℕ}
use Rattle.std.specs.List.{list_all, range_with_len, slice_index_or}
use Rattle.dd_peer.specs.declared.version.PeerVersion.{PeerVersion}
use Rattle.dd_peer.specs.declared.version.Pinned.{Pinned}
use Rattle.dd_peer.specs.Refusals.{IsAccepted}
use Rattle.dd_peer.specs.Versions.{empty_version}
use Rattle.dd_pin.specs.contracts.registry.Accepted as accepted
use Rattle.dd_pin.specs.declared.registry.Accepted.{Accepted}

-- the number of peers, and the accepted puts in their order
pub record Registered : Type 0 where
  pub peers : ℕ
  pub history : List Accepted

-- it is stored as the pair of its fields
abbrev pub registered_code : Coded Registered
registered_code =
    code_by (ℕ × List Accepted) (coded× coded_ℕ (coded_list accepted.the_row.coded)) (λ r. (r.peers, r.history))
    (λ p. record { peers = p.0; history = p.1 }) (λ _. refl)

-- the versions of one peer, oldest first
abbrev pub versions_of : ℕ → List Accepted → List PeerVersion
versions_of peer history = map (λ (a : Accepted). a.version) (filter (λ (a : Accepted). a.peer == peer) history)

-- how many versions a peer has had: the number of its last one
abbrev pub last_version : ℕ → List Accepted → ℕ
last_version peer history = length (versions_of peer history)

-- the version with this number, of which 0 is the empty one
abbrev pub version_at : ℕ → List Accepted → ℕ → PeerVersion
version_at peer history number = slice_index_or (empty_version ∷ versions_of peer history) number empty_version

-- the last version of a peer
abbrev pub present_version : ℕ → List Accepted → PeerVersion
present_version peer history = version_at peer history (last_version peer history)

-- the pin at the end of a history has each peer's last number
abbrev pub pin_of : ℕ → List Accepted → List ℕ
pin_of peers history = map (λ peer. last_version peer history) (range_with_len 0 peers)

-- the number that a pin has for a peer
abbrev pub number_for : ℕ → List ℕ → ℕ
number_for peer pin = slice_index_or pin peer 0

-- has a pin one number per peer, each that of a version
abbrev pub is_pin : ℕ → List ℕ → List Accepted → Bool
is_pin peers pin history = (length pin == peers) && list_all (λ peer. nat_le (number_for peer pin) (last_version peer history)) (range_with_len 0 peers)

-- the versions that a pin names
abbrev pub pinned_by : List ℕ → List Accepted → Pinned
pinned_by pin history = record { peers = map (λ peer. version_at peer history (number_for peer pin)) (range_with_len 0 (length pin)) }

-- ---- what holds of every history

-- the most accepted puts of all peers together
abbrev pub most_puts : ℕ
most_puts = 4096

-- There are 1 to 64 peers, each put is of one of them and was not refused, and there are no more of them than there may be.
pub record IsHistory (peers : ℕ) (history : List Accepted) : Type 0 where
  pub least : 1 ≤ peers
  pub most : peers ≤ 64
  pub declared : All (λ a. a.peer < peers) history
  pub accepted : All (λ a. IsAccepted a.version peers a.peer) history
  pub puts : length history ≤ most_puts

-- each version of the pinned set is one that its peer may put
abbrev pub AreAccepted : Pinned → Type 0
AreAccepted p = (peer : ℕ) (v : PeerVersion) → slice_get p.peers peer ≡ Some v → IsAccepted v (length p.peers) peer
