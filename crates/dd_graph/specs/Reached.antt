-- Which labels are reached from a goal, in numbers.
use Rattle.std.specs.Prelude.{ℕ, ◌≡◌, Bool, true, List, slice_get, Some}
use Rattle.dd_set.specs.Words.{has}
use Rattle.dd_rules.specs.declared.shape.Shape.TheVariants as shape
use Rattle.dd_rules.specs.declared.shape.Step.{Step}
use Rattle.dd_rules.specs.Least.{IsLeastSaturated}
use Rattle.dd_rules.specs.Numbers.{Rules, calls_for, additions, IsSuccessor}
use Rattle.dd_graph.specs.Right.{IsClear, adding}

-- The goal is reached, and so are the least saturated label of what is reached, that of a reached clear label with one of the
-- additions of a step that it calls for, and the successor labels of a reached clear label.
pub data ReachedIn (r : Rules) (goal : ℕ → Bool) : (ℕ → Bool) → Type 0 where
  start : ReachedIn r goal goal
  saturated : (p q : ℕ → Bool) → ReachedIn r goal p → IsLeastSaturated r p q → ReachedIn r goal q
  step : (p q : ℕ → Bool) (s : Step) (i c : ℕ) → ReachedIn r goal p → IsClear r p → calls_for r p s ≡ true → slice_get (additions r s) i ≡ Some c
      → IsLeastSaturated r (adding c p) q → ReachedIn r goal q
  successor : (p q : ℕ → Bool) (n role c : ℕ) → ReachedIn r goal p → IsClear r p → p n ≡ true → slice_get r.shapes n ≡ Some (shape.HasSome role c)
      → IsSuccessor r p role c q → ReachedIn r goal q

-- the label is reached; how is left open
abbrev pub IsReachedIn : Rules → (ℕ → Bool) → (ℕ → Bool) → Type 0
IsReachedIn r goal p = ∥ ReachedIn r goal p ∥₁

-- each marked label is reached from the goal, which is the label at this position
abbrev pub AreReached : Rules → List (List ℕ) → List Bool → ℕ → Type 0
AreReached r labels marks goal = (k : ℕ) (g l : List ℕ) → slice_get marks k ≡ Some true → slice_get labels goal ≡ Some g → slice_get labels k ≡ Some l
    → IsReachedIn r (has g) (has l)
