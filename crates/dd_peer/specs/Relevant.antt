-- Which peers an answer about a peer can depend on.
use Rattle.std.specs.Prelude.{ℕ, ◌<◌, ◌==◌, ◌↔◌, Bool, false, IsTrue, List, All, length, slice_get}
use Rattle.std.specs.List.{list_any}
use Rattle.std.specs.List.Sorted.{IsStrictlyIncreasing}
use Rattle.std.specs.Option.{option_map_or}
use Rattle.dd_peer.specs.declared.version.Pinned.{Pinned}
use Rattle.dd_peer.specs.declared.version.PeerVersion.{PeerVersion}
use Rattle.dd_peer.specs.declared.version.Rule.{Rule}
use Rattle.dd_peer.specs.Rules.{rules_of}

-- every rule of the version comes from a peer below n, and so does every rule of the pinned set
abbrev pub ComeFromBelow : ℕ → PeerVersion → Type 0
ComeFromBelow n v = All (λ (r : Rule). r.from < n) (rules_of v)

abbrev pub AreDeclared : Pinned → Type 0
AreDeclared p = All (ComeFromBelow (length p.peers)) p.peers

-- does the version have a rule that comes from peer h
abbrev pub has_from : ℕ → PeerVersion → Bool
has_from h v = list_any (λ (r : Rule). r.from == h) (rules_of v)

-- does peer i keep a rule that comes from peer h
abbrev pub keeps_from : Pinned → ℕ → ℕ → Bool
keeps_from p i h = option_map_or (has_from h) (slice_get p.peers i) false

-- a peer is relevant to itself, and so is each peer from which a rule leads to a relevant one; no other is
pub data Relevant (p : Pinned) (j : ℕ) : ℕ → Type 0 where
  itself : Relevant p j j
  by_rule : (i h : ℕ) → Relevant p j i → IsTrue (keeps_from p i h) → Relevant p j h

-- the peer is relevant to peer j; by which chain of rules is left open
abbrev pub IsRelevant : Pinned → ℕ → ℕ → Type 0
IsRelevant p j i = ∥ Relevant p j i ∥₁

-- is the number in the list
abbrev pub is_in : List ℕ → ℕ → Bool
is_in list i = list_any (λ k. k == i) list

-- the peers that are relevant to peer j, rising
pub record AreRelevant (p : Pinned) (j : ℕ) (list : List ℕ) : Type 0 where
  pub rising : IsStrictlyIncreasing list
  pub exactly : (i : ℕ) → IsTrue (is_in list i) ↔ IsRelevant p j i
