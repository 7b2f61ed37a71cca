-- What the model of an open label is.
use Rattle.std.specs.Prelude.{ℕ, ◌≡◌, ◌<◌, List, [], ◌∷◌, length, map, slice_get, Some}
use Rattle.std.specs.Option.{option_map_or}
use Rattle.dd_concept.specs.declared.concept.Concept.{Concept}
use Rattle.dd_interp.specs.declared.interp.Interp.{Interp}
use Rattle.dd_interp.specs.Labels.{HasLabel}
use Rattle.dd_interp.specs.Lean.{IsLeanBy}
use Rattle.dd_graph.specs.View.{GraphView, IsAt, concepts_in, props_at}
use Rattle.dd_open.specs.NotBoth.{IsModelOf}

-- the words of the label at a position
abbrev pub words_at : GraphView → ℕ → List ℕ
words_at v q = option_map_or (λ l. l) (slice_get v.labels q) []

-- the labels of elements, by the positions of these
abbrev pub labels_of : GraphView → List ℕ → List (List Concept)
labels_of v elements = map (λ q. concepts_in v (words_at v q)) elements

-- The interpretation is a model of the axioms and the propagations; its element x has the label at position id; and it is lean by
-- the labels at these positions, one for each element.
pub record IsModelAt (v : GraphView) (id : ℕ) (i : Interp) (x : ℕ) (elements : List ℕ) : Type 0 where
  pub model : IsModelOf v i
  pub element : x < i.size
  pub label : (l : List ℕ) → IsAt v id l → HasLabel i x (concepts_in v l)
  pub within : (k q : ℕ) → slice_get elements k ≡ Some q → q < length v.labels
  pub distinct : (j k q : ℕ) → slice_get elements j ≡ Some q → slice_get elements k ≡ Some q → j ≡ k
  pub lean : (l : List ℕ) → IsAt v id l → IsLeanBy v.closure.axioms (props_at v) (concepts_in v l ∷ []) i (labels_of v elements)
