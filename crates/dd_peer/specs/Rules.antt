-- The rules of a version, by the peer that they come from.
use Rattle.std.specs.Prelude.{ℕ, ◌==◌, ◌++◌, List, filter}
use Rattle.dd_peer.specs.declared.version.PeerVersion.{PeerVersion}
use Rattle.dd_peer.specs.declared.version.Rule.{Rule}

-- all rules, in the order in which they are numbered
abbrev pub rules_of : PeerVersion → List Rule
rules_of v = v.into ++ v.onto

-- those from one peer, in stored order
abbrev pub rules_from : List Rule → ℕ → List Rule
rules_from rules from = filter (λ r. r.from == from) rules
