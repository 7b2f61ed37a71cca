-- The tests that ask which peers are declared.
use Rattle.std.specs.Prelude.{ℕ, Bool, true, not, ◌&&◌, nat_le, is_some, List, [], ◌∷◌, length, Option, None, Some, Err}
use Rattle.std.specs.List.{list_all}
use Rattle.dd_text.specs.Names.{names_a_thing}
use Rattle.dd_text.specs.Symbols.{has_text}
use Rattle.dd_wire.specs.Forms.{Written, peers, put, ask, check, versions}
use Rattle.dd_wire.specs.Refusal.{Tested, ◌>>=◌, demand, refused, no_peers, peers_twice, bad_peers, unknown_peer}

-- no two of the texts are equal
abbrev pub are_distinct : List (List ℕ) → Bool
are_distinct [] = true
are_distinct (t ∷ ts) = not (has_text ts t) && are_distinct ts

-- how many peers there may be
abbrev pub most_peers : ℕ
most_peers = 64

-- 1 to 64 different names
abbrev pub are_peers : List (List ℕ) → Bool
are_peers names = nat_le 1 (length names) && nat_le (length names) most_peers && list_all names_a_thing names && are_distinct names

-- this peer is declared
abbrev pub at_peer : Option (List (List ℕ)) → List ℕ → Tested Bool
at_peer None peer = Err (refused no_peers)
at_peer (Some names) peer = demand unknown_peer (has_text names peer)

-- the peers of a request are declared, or are declared by it for the first time
abbrev pub placed : Option (List (List ℕ)) → Written → Tested Bool
placed names (peers ns) = demand peers_twice (not (is_some names)) >>= (λ first. demand bad_peers (are_peers ns))
placed names (put peer axioms into onto) = at_peer names peer
placed names (ask peer left right expansions verdicts) = at_peer names peer
placed names (check peer left right pin cert) = at_peer names peer
placed names versions = demand no_peers (is_some names)
