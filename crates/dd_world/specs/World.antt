-- Worlds, and what follows in each of them. A world has one local interpretation per peer, whose domains are finite, of any
-- size, and may be empty, and links between elements of different peers. Nothing here knows how a question is decided.
-- After the distributed description logics of Borgida and Serafini.
use Rattle.std.specs.Prelude.{◌≡◌, ◌≢◌, ℕ, ◌<◌, length, slice_get, Some, All, Any}
use Rattle.dd_concept.specs.declared.concept.Axiom.{Axiom}
use Rattle.dd_interp.specs.Satisfies.{IsShaped}
use Rattle.dd_peer.specs.declared.version.Pinned.{Pinned}
use Rattle.dd_peer.specs.declared.version.PeerVersion.{PeerVersion}
use Rattle.dd_peer.specs.declared.version.Query.{Query}
use Rattle.dd_peer.specs.declared.version.Rule.{Rule}
use Rattle.dd_world.specs.declared.world.World.{World}
use Rattle.dd_world.specs.Elements.{IsElement, HoldsAt}

-- The link (i, j, a, b) leads from the element a of peer i to the element b of another peer j. A peer that is not declared
-- has no element, so both are declared.
pub record IsLink (w : World) (link : ℕ × ℕ × ℕ × ℕ) : Type 0 where
  pub others : link.0 ≢ link.1
  pub from : IsElement w link.0 link.2
  pub to : IsElement w link.1 link.3

-- one local interpretation per peer, each with its elements below its size, and links between their elements
pub record IsWorld (p : Pinned) (w : World) : Type 0 where
  pub one_each : length w.locals ≡ length p.peers
  pub shaped : All IsShaped w.locals
  pub links : All (IsLink w) w.links

-- the axiom that peer j has: each element of the left concept is one of the right concept
abbrev pub SatisfiesAt : World → ℕ → Axiom → Type 0
SatisfiesAt w j a = (x : ℕ) → IsElement w j x → HoldsAt w j x a.left → HoldsAt w j x a.right

-- an into rule that peer j keeps: each link from its peer that starts in the source ends in the target
abbrev pub SatisfiesInto : World → ℕ → Rule → Type 0
SatisfiesInto w j rule = All (λ link. link.0 ≡ rule.from → link.1 ≡ j
    → HoldsAt w rule.from link.2 rule.source → HoldsAt w j link.3 rule.target) w.links

-- the link leads from an element of the rule's source to the element b of peer j
pub record LeadsTo (w : World) (j : ℕ) (rule : Rule) (b : ℕ) (link : ℕ × ℕ × ℕ × ℕ) : Type 0 where
  pub from : link.0 ≡ rule.from
  pub to : link.1 ≡ j
  pub end : link.3 ≡ b
  pub source : HoldsAt w rule.from link.2 rule.source

-- an onto rule that peer j keeps: to each element of the target leads a link that starts in the source
abbrev pub SatisfiesOnto : World → ℕ → Rule → Type 0
SatisfiesOnto w j rule = (b : ℕ) → IsElement w j b → HoldsAt w j b rule.target → Any (LeadsTo w j rule b) w.links

-- the interpretation of peer j satisfies the axioms of its version, and the world the rules that it keeps
pub record SatisfiesVersion (w : World) (j : ℕ) (v : PeerVersion) : Type 0 where
  pub axioms : All (SatisfiesAt w j) v.axioms
  pub into : All (SatisfiesInto w j) v.into
  pub onto : All (SatisfiesOnto w j) v.onto

abbrev pub SatisfiesWorld : Pinned → World → Type 0
SatisfiesWorld p w = (j : ℕ) (v : PeerVersion) → slice_get p.peers j ≡ Some v → SatisfiesVersion w j v

-- In every world of these peers that satisfies their versions, each element of the query's peer that has the left
-- concept has the right one.
abbrev pub Follows : Pinned → Query → Type 0
Follows p q = (w : World) → IsWorld p w → SatisfiesWorld p w
    → (x : ℕ) → IsElement w q.peer x → HoldsAt w q.peer x q.left → HoldsAt w q.peer x q.right

-- this element of the query's peer has the left concept and lacks the right one
pub record IsCounterexample (w : World) (q : Query) (x : ℕ) : Type 0 where
  pub within : IsElement w q.peer x
  pub has_left : HoldsAt w q.peer x q.left
  pub lacks_right : ¬ (HoldsAt w q.peer x q.right)

-- a world of these peers that satisfies their versions, with an element of the query's peer that has left and lacks right
pub record IsCounter (p : Pinned) (q : Query) (w : World) : Type 0 where
  pub world : IsWorld p w
  pub satisfies : SatisfiesWorld p w
  pub element : (x : ℕ) × IsCounterexample w q x

-- a countermodel shows that the query does not follow
abbrev pub CountersRefute : Type 0
CountersRefute = (p : Pinned) (q : Query) (w : World) → IsCounter p q w → ¬ (Follows p q)
