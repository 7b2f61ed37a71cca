-- The goal that a key stands for, and what a propagation claims.
use Rattle.std.specs.Prelude.{ℕ, List, [], ◌∷◌, ◌++◌, map, flat_map, option_to_list, option_map, slice_get}
use Rattle.dd_concept.specs.declared.concept.Concept.{Concept}
use Rattle.dd_concept.specs.Normal.{nnf_of, nnf_not_of}
use Rattle.dd_peer.specs.declared.version.Pinned.{Pinned}
use Rattle.dd_peer.specs.declared.version.Query.{Query}
use Rattle.dd_peer.specs.declared.version.Rule.{Rule}
use Rattle.dd_task.specs.Claims.{Claim}
use Rattle.dd_task.specs.declared.job.Job.{Job}
use Rattle.dd_task.specs.declared.job.Key.{Key}
use Rattle.dd_task.specs.declared.job.Key.TheVariants.{Root, Asked}
use Rattle.dd_task.specs.declared.job.Goal.{Goal}
use Rattle.dd_task.specs.declared.line.Prop.{Prop}
use Rattle.dd_task.specs.Rules.{into_rules, onto_rules}

-- the left concept, and the complement of the right one, in normal form
abbrev pub root_label : Query → List Concept
root_label q = nnf_of q.left ∷ nnf_not_of q.right ∷ []

-- the source of the rule with this position, in normal form, and the complement of the source, where the rule is there
abbrev pub source_at : List Rule → ℕ → List Concept
source_at rules o = option_to_list (option_map (λ (r : Rule). nnf_of r.source) (slice_get rules o))

abbrev pub no_source_at : List Rule → ℕ → List Concept
no_source_at rules k = option_to_list (option_map (λ (r : Rule). nnf_not_of r.source) (slice_get rules k))

-- the source of an onto rule of the pair
abbrev pub source_of : Pinned → ℕ → ℕ → ℕ → List Concept
source_of p h i o = source_at (onto_rules p h i) o

-- the complement of the source of an into rule of the pair
abbrev pub no_source_of : Pinned → ℕ → ℕ → ℕ → List Concept
no_source_of p h i k = no_source_at (into_rules p h i) k

-- in the source of the onto rule, and outside the sources of all into rules in the set
abbrev pub asked_label : Pinned → ℕ → ℕ → ℕ → List ℕ → List Concept
asked_label p h i o set = source_of p h i o ++ flat_map (no_source_of p h i) set

-- the goal of a key: the question whether some element of this peer can have all concepts of the label
abbrev pub goal_for : Job → Key → Goal
goal_for job Root = record { peer = job.query.peer; label = root_label job.query }
goal_for job (Asked h i o set) = record { peer = h; label = asked_label job.pinned h i o set }

-- the peer whose elements a key asks about
abbrev pub peer_of : Job → Key → ℕ
peer_of job key = (goal_for job key).peer

-- what a propagation into peer i claims: no element of its peer has this label
abbrev pub claim_of_prop : Pinned → ℕ → Prop → Claim
claim_of_prop p i prop = record { peer = prop.from; label = asked_label p prop.from i prop.onto prop.into_set }

abbrev pub claims_of_view : Pinned → ℕ → List Prop → List Claim
claims_of_view p i view = map (claim_of_prop p i) view
