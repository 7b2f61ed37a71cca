-- For private clauses alone: the faults of a world, kind by kind.
use Rattle.std.specs.Prelude.{ℕ, ◌==◌, ◌&&◌, ◌||◌, Bool, not, if◌then◌else◌, List, position, Option, None, Some}
use Rattle.std.specs.Option.{option_map, option_or}
use Rattle.dd_set.specs.Words.{has}
use Rattle.dd_peer.specs.declared.version.Pinned.{Pinned}
use Rattle.dd_peer.specs.declared.version.PeerVersion.{PeerVersion}
use Rattle.dd_peer.specs.declared.version.Query.{Query}
use Rattle.dd_peer.specs.declared.version.Rule.{Rule}
use Rattle.dd_world.specs.declared.kind.Kind.{Kind}
use Rattle.dd_world.specs.declared.kind.Kind.TheVariants as kind
use Rattle.dd_world.specs.declared.world.World.{World}
use Rattle.dd_world.specs.declared.world.WorldFault.{WorldFault}
use Rattle.dd_world.specs.declared.world.WorldFault.TheVariants as fault
use Rattle.dd_world.specs.Faults.{first_failing}
use Rattle.dd_world.specs.Tests.{is_under, joins, satisfies_axiom, satisfies_into, satisfies_onto}

-- the place of the first item of the kind that peer j's interpretation or the links do not satisfy
abbrev pub failing : Kind → World → ℕ → PeerVersion → Option ℕ
failing kind.Axioms w j v = position (λ a. not (satisfies_axiom w j a)) v.axioms
failing kind.Into w j v = position (λ r. not (satisfies_into w j r)) v.into
failing kind.Onto w j v = position (λ r. not (satisfies_onto w j r)) v.onto

-- the first peer from j on with such an item, and its place
abbrev pub first_of_kind : Kind → World → ℕ → List PeerVersion → Option (ℕ × ℕ)
first_of_kind kind.Axioms w = first_failing (λ v. v.axioms) (satisfies_axiom w)
first_of_kind kind.Into w = first_failing (λ v. v.into) (satisfies_into w)
first_of_kind kind.Onto w = first_failing (λ v. v.onto) (satisfies_onto w)

-- the first fault of what has the shape of a world
abbrev pub fault_in_shape : Pinned → Query → World → Option WorldFault
fault_in_shape p q w =
    option_or (option_map (λ at. fault.Axiom at.0 at.1) (first_of_kind kind.Axioms w 0 p.peers))
    (option_or (option_map (λ at. fault.Into at.0 at.1) (first_of_kind kind.Into w 0 p.peers))
    (option_or (option_map (λ at. fault.Onto at.0 at.1) (first_of_kind kind.Onto w 0 p.peers))
    (if is_under w q.peer q.left q.right then Some fault.NotCounter else None)))

-- does the link of the rule start in the row of its source
abbrev pub starts_in : ℕ → Rule → List ℕ → ℕ × ℕ × ℕ × ℕ → Bool
starts_in j rule source link = joins j rule link && has source link.2

-- does it not, or does it end in the row of the target
abbrev pub keeps_rows : ℕ → Rule → List ℕ → List ℕ → ℕ × ℕ × ℕ × ℕ → Bool
keeps_rows j rule source target link = not (starts_in j rule source link) || has target link.3

-- does it lead to b
abbrev pub leads_by : ℕ → Rule → List ℕ → ℕ → ℕ × ℕ × ℕ × ℕ → Bool
leads_by j rule source b link = (joins j rule link && (link.3 == b)) && has source link.2
