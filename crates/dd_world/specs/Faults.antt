-- Why a world is no countermodel of a query: the first fault, in one order.
use Rattle.std.specs.Prelude.{◌≡◌, ℕ, ◌+◌, ◌<◌, All, Bool, not, if◌then◌else◌, List, [], ◌∷◌, position, slice_get, Option, None, Some, Result, Ok, Err}
use Rattle.std.specs.Option.{option_map, option_or}
use Rattle.dd_peer.specs.declared.version.Pinned.{Pinned}
use Rattle.dd_peer.specs.declared.version.PeerVersion.{PeerVersion}
use Rattle.dd_peer.specs.declared.version.Query.{Query}
use Rattle.dd_peer.specs.declared.version.Rule.{Rule}
use Rattle.dd_concept.specs.declared.concept.Axiom.{Axiom}
use Rattle.dd_world.specs.declared.world.World.{World}
use Rattle.dd_world.specs.declared.world.WorldFault.{WorldFault}
use Rattle.dd_world.specs.declared.world.WorldFault.TheVariants as fault
use Rattle.dd_world.specs.Tests.{is_world, is_under, satisfies_axiom, satisfies_into, satisfies_onto}
use Rattle.dd_world.specs.World.{IsWorld, SatisfiesAt, SatisfiesInto, SatisfiesOnto, SatisfiesWorld, IsCounterexample}

-- the first peer from j on, and the first place in its list, that fails a test of the peer's number and the item
abbrev pub first_failing : {A : Type 0} → (PeerVersion → List A) → (ℕ → A → Bool) → ℕ → List PeerVersion → Option (ℕ × ℕ)
first_failing list test j [] = None
first_failing list test j (v ∷ vs) =
    option_or (option_map (λ k. (j, k)) (position (λ item. not (test j item)) (list v))) (first_failing list test (j + 1) vs)

-- the first fault in this order: the shape, an axiom, an into rule, an onto rule, and that no element counters the query
abbrev pub fault_of : Pinned → Query → World → Option WorldFault
fault_of p q w =
    option_or (if is_world p w then None else Some fault.Shape)
    (option_or (option_map (λ at. fault.Axiom at.0 at.1) (first_failing (λ v. v.axioms) (satisfies_axiom w) 0 p.peers))
    (option_or (option_map (λ at. fault.Into at.0 at.1) (first_failing (λ v. v.into) (satisfies_into w) 0 p.peers))
    (option_or (option_map (λ at. fault.Onto at.0 at.1) (first_failing (λ v. v.onto) (satisfies_onto w) 0 p.peers))
    (if is_under w q.peer q.left q.right then Some fault.NotCounter else None))))

-- what a judge answers, by the first fault
abbrev pub judged_by : Option WorldFault → Result (Unit {0}) WorldFault
judged_by None = Ok tt
judged_by (Some f) = Err f

-- what is claimed of the items of each peer's list is so
abbrev pub EachHolds : (A : Type 0) → (PeerVersion → List A) → (ℕ → A → Type 0) → Pinned → Type 0
EachHolds A list Claim p = (j : ℕ) (v : PeerVersion) → slice_get p.peers j ≡ Some v → All (Claim j) (list v)

-- What is claimed of the items of each peer's list is not so of the item at place k of peer j, and is so of all items of the
-- peers before it and of its own items before this one.
pub record IsFirstFailing (A : Type 0) (list : PeerVersion → List A) (Claim : ℕ → A → Type 0) (p : Pinned) (j k : ℕ) : Type 0 where
  pub version : PeerVersion
  pub item : A
  pub is_version : slice_get p.peers j ≡ Some version
  pub is_item : slice_get (list version) k ≡ Some item
  pub fails : ¬ (Claim j item)
  pub peers_before : (i : ℕ) (v : PeerVersion) → i < j → slice_get p.peers i ≡ Some v → All (Claim i) (list v)
  pub items_before : (i : ℕ) (other : A) → i < k → slice_get (list version) i ≡ Some other → Claim j other

-- what a fault says: it is one, and none comes before it
abbrev pub IsFirstFault : Pinned → Query → World → WorldFault → Type 0
IsFirstFault p q w fault.Shape = ¬ (IsWorld p w)
IsFirstFault p q w (fault.Axiom j k) = IsWorld p w × IsFirstFailing Axiom (λ v. v.axioms) (SatisfiesAt w) p j k
IsFirstFault p q w (fault.Into j k) = IsWorld p w × EachHolds Axiom (λ v. v.axioms) (SatisfiesAt w) p
    × IsFirstFailing Rule (λ v. v.into) (SatisfiesInto w) p j k
IsFirstFault p q w (fault.Onto j k) = IsWorld p w × EachHolds Axiom (λ v. v.axioms) (SatisfiesAt w) p
    × EachHolds Rule (λ v. v.into) (SatisfiesInto w) p × IsFirstFailing Rule (λ v. v.onto) (SatisfiesOnto w) p j k
IsFirstFault p q w fault.NotCounter = IsWorld p w × SatisfiesWorld p w
    × ¬ ((x : ℕ) × IsCounterexample w q x)
