-- What a session knows between requests, as far as reading a line asks for it.
use Rattle.std.specs.Prelude.{◌≡◌, ◌⊎◌, ℕ, List, [], ◌∷◌, ◌++◌, length, Option, None, Some}
use Rattle.dd_text.specs.Symbols.{SymbolLists, Grows}
use Rattle.dd_peer.specs.declared.version.PeerVersion.{PeerVersion}
use Rattle.dd_peer.specs.declared.version.Pinned.{Pinned}
use Rattle.dd_pin.specs.History.{Registered, pin_of, pinned_by}
use Rattle.dd_pin.specs.declared.registry.Accepted.{Accepted}
use Rattle.dd_wire.specs.Requests.{declared_names}

-- the declared peers, if there are any yet, the texts that stand for numbers, and the accepted puts
pub record State : Type 0 where
  pub peers : Option (List (List ℕ))
  pub symbols : SymbolLists
  pub history : List Accepted

-- there are no puts before the peers are declared
abbrev pub history_of : Option Registered → List Accepted
history_of None = []
history_of (Some r) = r.history

-- the state of these peers, with what they have put
abbrev pub state_by : Option (List (List ℕ)) → SymbolLists → Option Registered → State
state_by peers symbols registry = record { peers = peers; symbols = symbols; history = history_of registry }

-- the state before the first request
abbrev pub start : State
start = record { peers = None; symbols = record { names = []; roles = [] }; history = [] }

-- the names of the declared peers, in declared order, and how many there are
abbrev pub names_of : State → List (List ℕ)
names_of state = declared_names state.peers

abbrev pub peer_count : State → ℕ
peer_count state = length (names_of state)

-- the pin of this moment: the number of each peer's last version
abbrev pub present_pin : State → List ℕ
present_pin state = pin_of (peer_count state) state.history

-- the versions that it names
abbrev pub present_versions : State → Pinned
present_versions state = pinned_by (present_pin state) state.history

-- an accepted put is appended to the history, and the symbols are those with its own
abbrev pub with_put : State → SymbolLists → ℕ → PeerVersion → State
with_put state s peer version = record {
  peers = state.peers;
  symbols = s;
  history = state.history ++ (record { peer = peer; version = version }) ∷ [];
}

-- What holds between a state and each later one: peers stay once they are declared, symbols keep their numbers, and puts are only
-- added.
pub record Later (old new : State) : Type 0 where
  pub peers : (old.peers ≡ None) ⊎ (new.peers ≡ old.peers)
  pub symbols : Grows old.symbols new.symbols
  pub history : (more : List Accepted) × (new.history ≡ old.history ++ more)
