-- For private clauses: closed labels in the order of their ranks, and their lines.
use Rattle.std.specs.Prelude.{ℕ, ◌≡◌, ◌<◌, ◌≢◌, List, length, slice_get, Some}
use Rattle.dd_graph.specs.View.{GraphView, IsAt, rank_of}
use Rattle.dd_set.specs.Words.{has}
use Rattle.dd_close.specs.Drafts.{IsBook, IsLine}
use Rattle.dd_close.specs.Nodes.{AreLines}
use Rattle.dd_close.specs.declared.draft.Book.{Book}

-- the position stands at its label's rank now, if there is room for that; all others stay
pub record IsPlaced (v : GraphView) (id : ℕ) (old new : List ℕ) : Type 0 where
  pub here : (j : ℕ) → rank_of v id ≡ Some j → j < length old → slice_get new j ≡ Some id
  pub others : (j : ℕ) → rank_of v id ≢ Some j → slice_get new j ≡ slice_get old j

-- of the positions before this one, those of labels with ranks for which there is room stand at their ranks
abbrev pub IsOrder : GraphView → List ℕ → ℕ → Type 0
IsOrder v order n = (t j : ℕ) → t < n → rank_of v t ≡ Some j → j < length order → slice_get order j ≡ Some t

-- there are lines for the labels with ranks below the bound
pub record Drafts (v : GraphView) (b : Book) (lines : List ℕ) (bound : ℕ) : Type 0 where
  pub book : IsBook v b
  pub each : AreLines v b lines bound

-- the label with this position is closed, and the line with this number is within it
pub record HasDraft (v : GraphView) (b : Book) (id line : ℕ) : Type 0 where
  pub book : IsBook v b
  pub label : List ℕ
  pub at : IsAt v id label
  pub within : IsLine b (has label) line
