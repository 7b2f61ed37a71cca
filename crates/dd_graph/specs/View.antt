-- What is seen of a graph, and what holds of every graph.
use Rattle.std.specs.Prelude.{ℕ, ◌≡◌, Bool, true, false, ◌||◌, List, [], ◌∷◌, length, slice_get, Option, Some, None}
use Rattle.std.specs.Option.{option_map_or}
use Rattle.dd_concept.specs.declared.concept.Concept.{Concept}
use Rattle.dd_concept.specs.Propagation.{Propagation}
use Rattle.dd_concept.specs.Reached.{IsReached}
use Rattle.dd_set.specs.Words.{has}
use Rattle.dd_table.specs.Labels.{AllPacked, IsWithoutRepeats}
use Rattle.dd_rules.specs.Compiled.{Closure, AreProps, props_of, rules_in}
use Rattle.dd_rules.specs.Numbers.{Rules, concepts_at}
use Rattle.dd_rules.specs.declared.props.Props.{Props}
use Rattle.dd_graph.specs.declared.graph.Graph.{Graph}
use Rattle.dd_graph.specs.declared.kernel.Kernel.{Kernel}
use Rattle.dd_graph.specs.declared.node.Entry.{Entry}
use Rattle.dd_graph.specs.declared.node.Node.{Node}
use Rattle.dd_graph.specs.declared.node.Node.TheVariants as node
use Rattle.dd_graph.specs.Right.{AreEntries, rank_at, open_at}

-- A peer's closure and the propagations into it; the labels, each by its words; what is kept of each label; and how many of
-- them are closed.
pub record GraphView : Type 0 where
  pub closure : Closure
  pub props : Props
  pub labels : List (List ℕ)
  pub entries : List Entry
  pub closed : ℕ

abbrev pub kernel_view : Kernel → GraphView
kernel_view k = record { closure = k.compiled; props = k.props; labels = k.table.list; entries = k.entries.items; closed = k.closed }

abbrev pub view_of : Graph → GraphView
view_of g = kernel_view g.kernel

-- the rules of the labels, in numbers
abbrev pub rules_at : GraphView → Rules
rules_at v = rules_in v.closure v.props

-- the propagations by their concepts
abbrev pub props_at : GraphView → List Propagation
props_at v = props_of v.closure.concepts v.props

-- the concepts of a label
abbrev pub concepts_in : GraphView → List ℕ → List Concept
concepts_in v l = concepts_at v.closure.concepts (has l)

-- the label stands at this position
abbrev pub IsAt : GraphView → ℕ → List ℕ → Type 0
IsAt v id l = slice_get v.labels id ≡ Some l

-- what was done at this position; nothing where there is none
abbrev pub node_at : GraphView → ℕ → Node
node_at v id = option_map_or (λ (e : Entry). e.node) (slice_get v.entries id) node.Fresh

abbrev pub rank_of : GraphView → ℕ → Option ℕ
rank_of v id = rank_at v.entries id

abbrev pub is_open_at : GraphView → ℕ → Bool
is_open_at v id = open_at v.entries id

-- the second label is reached from the first
abbrev pub IsReachedFrom : GraphView → List ℕ → List ℕ → Type 0
IsReachedFrom v goal l = IsReached v.closure.axioms (props_at v) (concepts_in v goal ∷ []) (concepts_in v l)

-- What holds of every graph: the propagations are fit; each label is a set of numbers of concepts, and no two are equal; and
-- what is kept of each label is right.
pub record IsGraph (v : GraphView) : Type 0 where
  pub fit : AreProps v.closure v.props
  pub packed : AllPacked (length v.closure.concepts) v.labels
  pub distinct : IsWithoutRepeats v.labels
  pub right : AreEntries (rules_at v) v.labels v.entries v.closed

-- does the label have a rank, or is it open
abbrev pub is_some_rank : Option ℕ → Bool
is_some_rank None = false
is_some_rank (Some k) = true

abbrev pub is_settled : Entry → Bool
is_settled e = is_some_rank e.rank || e.open

-- The second graph is the first one with more: it has the same closure and propagations, the labels at their positions, and
-- what is kept of closed and of open labels.
pub record Keeps (old new : GraphView) : Type 0 where
  pub closure : new.closure ≡ old.closure
  pub props : new.props ≡ old.props
  pub labels : (k : ℕ) (l : List ℕ) → slice_get old.labels k ≡ Some l → slice_get new.labels k ≡ Some l
  pub settled : (k : ℕ) (e : Entry) → slice_get old.entries k ≡ Some e → is_settled e ≡ true → slice_get new.entries k ≡ Some e
