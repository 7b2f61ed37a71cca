-- What a decision says.
use Rattle.std.specs.Prelude.{ℕ, ◌≡◌, ◌≢◌, ◌+◌, ◌≤◌, List, length, slice_get, Some}
use Rattle.dd_set.specs.Words.{Label}
use Rattle.dd_graph.specs.declared.decided.Decided.{Decided}
use Rattle.dd_graph.specs.declared.decided.Decided.TheVariants as decided
use Rattle.dd_graph.specs.View.{GraphView, IsReachedFrom}

-- a claim on the position and the rank that Closed tells
abbrev pub OnClosed : (ℕ → ℕ → Type 0) → Decided → Type 0
OnClosed claim (decided.Closed id rank) = claim id rank
OnClosed claim (decided.Open id) = Unit {0}
OnClosed claim (decided.Spent next) = Unit {0}

-- a claim on the position that Open tells
abbrev pub OnOpen : (ℕ → Type 0) → Decided → Type 0
OnOpen claim (decided.Closed id rank) = Unit {0}
OnOpen claim (decided.Open id) = claim id
OnOpen claim (decided.Spent next) = Unit {0}

-- a claim on the words of the label that Spent tells
abbrev pub OnSpent : (List ℕ → Type 0) → Decided → Type 0
OnSpent claim (decided.Closed id rank) = Unit {0}
OnSpent claim (decided.Open id) = Unit {0}
OnSpent claim (decided.Spent next) = claim next.words

-- each new label is reached from the goal
abbrev pub NewAreReached : GraphView → GraphView → List ℕ → Type 0
NewAreReached old new goal = (k : ℕ) (l : List ℕ) → length old.labels ≤ k → slice_get new.labels k ≡ Some l → IsReachedFrom new goal l

-- there are exactly as many new labels as there might be, and the next one is reached from the goal and is not among them
pub record IsSpent (old new : GraphView) (goal : List ℕ) (budget : ℕ) (next : List ℕ) : Type 0 where
  pub put : length new.labels ≡ length old.labels + budget
  pub reached : IsReachedFrom new goal next
  pub absent : (k : ℕ) → slice_get new.labels k ≢ Some next
