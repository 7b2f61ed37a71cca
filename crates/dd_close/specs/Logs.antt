-- For private clauses: the forced steps from a label to a larger one.
use Rattle.std.specs.Prelude.{ℕ, suc, ◌≡◌, ◌<◌, ◌==◌, ◌||◌, ◌++◌, Bool, true, false, List, [], ◌∷◌, slice_get, Some}
use Rattle.std.specs.List.{list_any}
use Rattle.std.specs.Option.{option_map_or}
use Rattle.dd_rules.specs.Forced.{forces, forced_numbers}
use Rattle.dd_rules.specs.Least.{Implies}
use Rattle.dd_rules.specs.Numbers.{Rules, is_saturated}
use Rattle.dd_rules.specs.declared.shape.Step.{Step}
use Rattle.dd_set.specs.Words.{Label, has}
use Rattle.dd_close.specs.Drafts.{IsLine}
use Rattle.dd_close.specs.declared.draft.Book.{Book}
use Rattle.dd_close.specs.declared.forced.Forced.{Forced}

-- the label with the numbers that the forced step adds
abbrev pub with_forced : Rules → Step → (ℕ → Bool) → ℕ → Bool
with_forced r s p k = list_any (λ m. k == m) (forced_numbers r s) || p k

abbrev pub by_forced : Rules → Forced → ℕ → Bool
by_forced r f = with_forced r f.step (has f.before.words)

-- the second label has what the first has, nothing but what the step adds besides, and a number more
pub record AddsForced (r : Rules) (s : Step) (p q : ℕ → Bool) : Type 0 where
  pub above : Implies p q
  pub only : Implies q (with_forced r s p)
  pub number : ℕ
  pub was_not : p number ≡ false
  pub is_now : q number ≡ true

-- one more step is in the log
pub record Climbs (r : Rules) (old new : Label) (log more : List Forced) : Type 0 where
  pub step : Step
  pub longer : more ≡ log ++ record { before = old; step = step } ∷ []
  pub forced : forces r (has old.words) step ≡ true
  pub adds : AddsForced r step (has old.words) (has new.words)
  pub low : adds.number < new.width

-- the label before the step with this place, or the last one
abbrev pub set_at : List Forced → (ℕ → Bool) → ℕ → ℕ → Bool
set_at log top i = option_map_or (λ (f : Forced). has f.before.words) (slice_get log i) top

-- each step of the log is forced in the label before it, and the next label has what it had and what the step adds
pub record IsLog (r : Rules) (width : ℕ) (base : ℕ → Bool) (log : List Forced) (top : ℕ → Bool) : Type 0 where
  pub start : Implies (set_at log top 0) base
  pub widths : (i : ℕ) (f : Forced) → slice_get log i ≡ Some f → f.before.width ≡ width
  pub forced : (i : ℕ) (f : Forced) → slice_get log i ≡ Some f → forces r (has f.before.words) f.step ≡ true
  pub leads : (i : ℕ) (f : Forced) → slice_get log i ≡ Some f → Implies (set_at log top (suc i)) (by_forced r f)

-- the line is within each saturated label that has the set
abbrev pub Reaches : Rules → Book → ℕ → (ℕ → Bool) → Type 0
Reaches r b line p = (other : ℕ → Bool) → Implies p other → is_saturated r other ≡ true → IsLine b other line
