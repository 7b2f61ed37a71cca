-- A closed label is one that no element of a model has.
use Rattle.std.specs.Prelude.{ℕ, ◌≡◌, ◌<◌, List, Some}
use Rattle.dd_interp.specs.declared.interp.Interp.{Interp}
use Rattle.dd_interp.specs.Labels.{HasLabel}
use Rattle.dd_interp.specs.Propagations.{SatisfiesPropagations}
use Rattle.dd_interp.specs.Satisfies.{IsShaped, SatisfiesAxioms}
use Rattle.dd_graph.specs.View.{GraphView, IsAt, concepts_in, props_at, rank_of}

-- an interpretation that satisfies the axioms and the propagations of the graph
pub record IsModelOf (v : GraphView) (i : Interp) : Type 0 where
  pub shaped : IsShaped i
  pub axioms : SatisfiesAxioms i v.closure.axioms
  pub propagations : SatisfiesPropagations i (props_at v)

-- in no model has an element all concepts of a label with a rank
abbrev pub ClosedHaveNoModel : GraphView → Type 0
ClosedHaveNoModel v = (i : Interp) → IsModelOf v i → (id rank : ℕ) (l : List ℕ) → IsAt v id l → rank_of v id ≡ Some rank
    → (x : ℕ) → x < i.size → HasLabel i x (concepts_in v l) → ⊥
