-- Which targets hold at an element of a peer, and what a propagation into that peer asks of its elements.
use Rattle.std.specs.Prelude.{ℕ, ◌<◌, Bool, List, map, filter, flat_map, option_to_list, option_map, IsTrue, slice_get}
use Rattle.std.specs.List.{list_any, enumerate_from}
use Rattle.dd_concept.specs.declared.concept.Concept.{Concept}
use Rattle.dd_concept.specs.Normal.{nnf_of}
use Rattle.dd_concept.specs.Propagation.{Propagation}
use Rattle.dd_interp.specs.declared.interp.Interp.{Interp}
use Rattle.dd_interp.specs.Meaning.{meaning}
use Rattle.dd_peer.specs.declared.version.Pinned.{Pinned}
use Rattle.dd_peer.specs.declared.version.Rule.{Rule}
use Rattle.dd_task.specs.declared.line.Prop.{Prop}
use Rattle.dd_task.specs.Lines.{is_there}
use Rattle.dd_task.specs.Rules.{into_rules, onto_rules}

-- the places of the items that pass, rising
abbrev pub positions : {A : Type 0} → (A → Bool) → List A → List ℕ
positions test xs = map (λ e. e.0) (filter (λ e. test e.1) (enumerate_from 0 xs))

-- is the element x in the target of the rule
abbrev pub in_target : Interp → ℕ → Rule → Bool
in_target m x r = meaning m r.target x

-- is the element x of peer i in the target of the onto rule o from peer h, or of the into rule k
abbrev pub in_onto : Pinned → ℕ → ℕ → Interp → ℕ → ℕ → Bool
in_onto p h i m x o = is_there (slice_get (onto_rules p h i) o) (in_target m x)

abbrev pub in_into : Pinned → ℕ → ℕ → Interp → ℕ → ℕ → Bool
in_into p h i m x k = is_there (slice_get (into_rules p h i) k) (in_target m x)

-- each element in the target of the propagation's onto rule is in the target of an into rule of its set
abbrev pub SatisfiesProp : Pinned → ℕ → Interp → Prop → Type 0
SatisfiesProp p i m prop = (x : ℕ) → x < m.size → IsTrue (in_onto p prop.from i m x prop.onto)
    → IsTrue (list_any (in_into p prop.from i m x) prop.into_set)

-- ---- the same propagations as the peer's own rules of labels see them: the targets in normal form

-- the target of an into rule of the pair
abbrev pub into_target_of : Pinned → ℕ → ℕ → ℕ → List Concept
into_target_of p h i k = option_to_list (option_map (λ (r : Rule). nnf_of r.target) (slice_get (into_rules p h i) k))

abbrev pub targets_by : Pinned → ℕ → Prop → Rule → Propagation
targets_by p i prop onto = record { onto = nnf_of onto.target; into = flat_map (into_target_of p prop.from i) prop.into_set }

abbrev pub propagation_of : Pinned → ℕ → Prop → List Propagation
propagation_of p i prop = option_to_list (option_map (targets_by p i prop) (slice_get (onto_rules p prop.from i) prop.onto))

-- the propagations of a view into peer i, each whose onto rule is there
abbrev pub propagations_of : Pinned → ℕ → List Prop → List Propagation
propagations_of p i view = flat_map (propagation_of p i) view
