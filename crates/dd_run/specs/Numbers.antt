-- For private clauses alone: what a run is given, by the numbers of the closure's concepts.
use Rattle.std.specs.Prelude.{ℕ, ◌≡◌, ◌≤◌, ◌==◌, true, List, length, map, flat_map, option_to_list, option_map, slice_get, Some}
use Rattle.std.specs.List.{list_any}
use Rattle.dd_concept.specs.declared.concept.Concept.{Concept}
use Rattle.dd_concept.specs.Normal.{nnf_of, nnf_not_of}
use Rattle.dd_concept.specs.Same.{has, SameSet}
use Rattle.dd_peer.specs.declared.version.Pinned.{Pinned}
use Rattle.dd_peer.specs.declared.version.Rule.{Rule}
use Rattle.dd_set.specs.Words as words
use Rattle.dd_set.specs.Words.{Label}
use Rattle.dd_rules.specs.Numbers.{place_of}
use Rattle.dd_graph.specs.View.{GraphView, IsReachedFrom, concepts_in, props_at}
use Rattle.dd_task.specs.declared.job.Goal.{Goal}
use Rattle.dd_task.specs.declared.job.Job.{Job}
use Rattle.dd_task.specs.declared.line.Prop.{Prop}
use Rattle.dd_task.specs.Rules.{axioms_of, into_rules, onto_rules}
use Rattle.dd_task.specs.Targets.{propagations_of}
use Rattle.dd_run.specs.Fit.{closure_for}

-- the concepts have the targets of the rules that peer i keeps, in normal form, and the complements of those of onto rules
pub record HaveTargets (p : Pinned) (i : ℕ) (concepts : List Concept) : Type 0 where
  pub onto : (h k : ℕ) (r : Rule) → slice_get (onto_rules p h i) k ≡ Some r → has concepts (nnf_of r.target) ≡ true
  pub not_onto : (h k : ℕ) (r : Rule) → slice_get (onto_rules p h i) k ≡ Some r → has concepts (nnf_not_of r.target) ≡ true
  pub into : (h k : ℕ) (r : Rule) → slice_get (into_rules p h i) k ≡ Some r → has concepts (nnf_of r.target) ≡ true

-- the number of the target of an into rule, if it is there
abbrev pub into_number : List Concept → Pinned → ℕ → ℕ → ℕ → List ℕ
into_number concepts p h i k = option_to_list (option_map (λ (r : Rule). place_of concepts (nnf_of r.target)) (slice_get (into_rules p h i) k))

-- the numbers of a propagation with this onto rule
abbrev pub numbers_by : List Concept → Pinned → ℕ → Prop → Rule → ℕ × ℕ × List ℕ
numbers_by concepts p i prop onto =
    (place_of concepts (nnf_of onto.target), place_of concepts (nnf_not_of onto.target), flat_map (into_number concepts p prop.from i) prop.into_set)

abbrev pub prop_numbers : List Concept → Pinned → ℕ → Prop → List (ℕ × ℕ × List ℕ)
prop_numbers concepts p i prop = option_to_list (option_map (numbers_by concepts p i prop) (slice_get (onto_rules p prop.from i) prop.onto))

-- the words are those of the set of these concepts' numbers
abbrev pub AreNumbersOf : List Concept → List Concept → List ℕ → Type 0
AreNumbersOf concepts label ws = (k : ℕ) → words.has ws k ≡ list_any (λ c. k == place_of concepts c) label

-- the graph's closure is that of the peer for the job, with its axioms, and its propagations are those of the view
pub record IsGraphFor (job : Job) (peer : ℕ) (view : List Prop) (v : GraphView) : Type 0 where
  pub concepts : v.closure.concepts ≡ closure_for job peer
  pub axioms : v.closure.axioms ≡ axioms_of job.pinned peer
  pub props : props_at v ≡ propagations_of job.pinned peer view

-- The graph is one for the goal over the view. The label with these words has the concepts of the goal, all labels are reached
-- from it, and there are at most as many as the budget allows.
pub record IsRunFor (job : Job) (goal : Goal) (view : List Prop) (v : GraphView) (ws : List ℕ) : Type 0 where
  pub graph : IsGraphFor job goal.peer view v
  pub label : SameSet (concepts_in v ws) goal.label
  pub reached : (k : ℕ) (l : List ℕ) → slice_get v.labels k ≡ Some l → IsReachedFrom v ws l
  pub few : length v.labels ≤ job.budget.expansions

-- labels of the same width, by their words
abbrev pub with_width : ℕ → List (List ℕ) → List Label
with_width width labels = map (λ ws. record { width = width; words = ws }) labels
