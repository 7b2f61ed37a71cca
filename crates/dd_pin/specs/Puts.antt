-- What a put does, and when it is refused.
use Rattle.std.specs.Prelude.{◌≡◌, ℕ, ◌<◌, ◌++◌, ◌∷◌, [], nat_le, nat_lt, Bool, if◌then◌else◌, List, length, map, Option, None, Some, Result, Ok, Err}
use Rattle.std.specs.List.{list_all, range_with_len, slice_index_or}
use Rattle.std.specs.Option.{option_map, option_or}
use Rattle.dd_peer.specs.declared.version.PeerVersion.{PeerVersion}
use Rattle.dd_peer.specs.Refusals.{refusal_of}
use Rattle.dd_peer.specs.Versions.{empty_version}
use Rattle.dd_pin.specs.declared.registry.Accepted.{Accepted}
use Rattle.dd_pin.specs.declared.registry.PutErr.{PutErr}
use Rattle.dd_pin.specs.declared.registry.PutErr.TheVariants.{Peer, VersionsFull, NoMemory}
use Rattle.dd_pin.specs.History.{Registered, most_puts, versions_of}

-- one more put, at the end
abbrev pub with_put : Registered → ℕ → PeerVersion → Registered
with_put r peer v = record r { history = r.history ++ (record { peer = peer; version = v }) ∷ [] }

-- the first cause, in this order, to refuse a put: the version's own, or that there are as many puts as there may be
abbrev pub refusal_at : Registered → ℕ → PeerVersion → Option PutErr
refusal_at r peer v =
    option_or (option_map (λ e. Peer e) (refusal_of v r.peers peer)) (if nat_le most_puts (length r.history) then Some VersionsFull else None)

-- A put is accepted only where there is no cause to refuse it, and refused only for the first cause. Memory is no such cause.
abbrev pub RefusedBy : Result ℕ PutErr → Option PutErr → Type 0
RefusedBy (Ok n) refusal = refusal ≡ None
RefusedBy (Err (Peer e)) refusal = refusal ≡ Some (Peer e)
RefusedBy (Err VersionsFull) refusal = refusal ≡ Some VersionsFull
RefusedBy (Err NoMemory) refusal = Unit {0}

-- ---- for private clauses

-- the rows hold, for each peer, the empty version and then what it put
pub record FitsHistory (peers : ℕ) (history : List Accepted) (rows : List (List PeerVersion)) : Type 0 where
  pub size : length rows ≡ peers
  pub row : (peer : ℕ) → peer < peers → slice_index_or rows peer [] ≡ empty_version ∷ versions_of peer history

-- has each row a position that is the number at its place
abbrev pub are_places : List ℕ → List (List PeerVersion) → Bool
are_places numbers rows = list_all (λ k. nat_lt (slice_index_or numbers k 0) (length (slice_index_or rows k []))) (range_with_len 0 (length rows))

-- what stands there
abbrev pub at_places : List ℕ → List (List PeerVersion) → List PeerVersion
at_places numbers rows = map (λ k. slice_index_or (slice_index_or rows k []) (slice_index_or numbers k 0) empty_version) (range_with_len 0 (length numbers))
