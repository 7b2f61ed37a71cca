-- The closure of a peer: all concepts that stand in a label of a run for the job at this peer.
use Rattle.std.specs.Prelude.{ℕ, ◌≡◌, ◌==◌, if◌then◌else◌, true, List, [], ◌∷◌, ◌++◌, map, flat_map, All}
use Rattle.dd_concept.specs.declared.concept.Axiom.{Axiom}
use Rattle.dd_concept.specs.declared.concept.Concept.{Concept}
use Rattle.dd_concept.specs.Closed.{HasParts, HasSides}
use Rattle.dd_concept.specs.Normal.{nnf_of, nnf_not_of}
use Rattle.dd_concept.specs.Same.{has, is_within}
use Rattle.dd_peer.specs.declared.version.Pinned.{Pinned}
use Rattle.dd_peer.specs.declared.version.Query.{Query}
use Rattle.dd_peer.specs.declared.version.Rule.{Rule}
use Rattle.dd_task.specs.declared.job.Job.{Job}
use Rattle.dd_task.specs.Goals.{root_label}
use Rattle.dd_task.specs.Rules.{all_into, all_onto, into_rules, onto_rules, axioms_of}

-- the target of a rule and its complement, in normal form
abbrev pub both_targets : Rule → List Concept
both_targets r = nnf_of r.target ∷ nnf_not_of r.target ∷ []

-- by the rules that the peer keeps: into before onto
abbrev pub kept_targets : Pinned → ℕ → List Concept
kept_targets p i = flat_map both_targets (all_into p i ++ all_onto p i)

-- by the rules that peer k keeps from the peer: what a key asks of an element, into before onto
abbrev pub asked_by : Pinned → ℕ → ℕ → List Concept
asked_by p i k = map (λ (r : Rule). nnf_not_of r.source) (into_rules p i k) ++ map (λ (r : Rule). nnf_of r.source) (onto_rules p i k)

-- by the query, at its peer
abbrev pub asked_first : Query → ℕ → List Concept
asked_first q i = if q.peer == i then root_label q else []

-- the concepts besides the axioms whose subconcepts are in the peer's closure
abbrev pub extra_for : Job → ℕ → List Concept
extra_for job i = kept_targets job.pinned i ++ (flat_map (asked_by job.pinned i) job.relevant ++ asked_first job.query i)

-- the list has the sides of the axioms in normal form, the left ones complemented, the further concepts, and with each concept
-- its parts
pub record IsClosedOver (axioms : List Axiom) (extra closure : List Concept) : Type 0 where
  pub sides : All (HasSides closure) axioms
  pub extras : All (λ c. has closure c ≡ true) extra
  pub parts : HasParts closure

-- it is such a list, and has no concept that not all such lists have
pub record IsClosure (axioms : List Axiom) (extra closure : List Concept) : Type 0 where
  pub is_closed : IsClosedOver axioms extra closure
  pub least : (other : List Concept) → IsClosedOver axioms extra other → is_within closure other ≡ true

-- the list is the closure of peer i for the job
abbrev pub IsClosureFor : Job → ℕ → List Concept → Type 0
IsClosureFor job i closure = IsClosure (axioms_of job.pinned i) (extra_for job i) closure
