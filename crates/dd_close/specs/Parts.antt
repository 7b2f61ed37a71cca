-- For private clauses: what labels of lines have of a set.
use Rattle.std.specs.Prelude.{ℕ, ◌≡◌, ◌&&◌, ◌||◌, Bool, true, List, slice_get, Some}
use Rattle.dd_rules.specs.Forced.{is_clash}
use Rattle.dd_rules.specs.Least.{Implies}
use Rattle.dd_rules.specs.Numbers.{Rules}
use Rattle.dd_rules.specs.declared.clash.Clash.{Clash}
use Rattle.dd_set.specs.Words.{has}

-- the second set has besides the first what the line's label has of the given one
abbrev pub AddsPart : List (List ℕ) → ℕ → (ℕ → Bool) → (ℕ → Bool) → (ℕ → Bool) → Type 0
AddsPart labels line set old new = (l : List ℕ) → slice_get labels line ≡ Some l → (k : ℕ) → new k ≡ (old k || (has l k && set k))

-- the set is within the given one, and has what each of the lines' labels has of that
pub record ArePartsOf (labels : List (List ℕ)) (lines : List ℕ) (set p : ℕ → Bool) : Type 0 where
  pub within : Implies p set
  pub each : (i m : ℕ) (l : List ℕ) → slice_get lines i ≡ Some m → slice_get labels m ≡ Some l → (k : ℕ) → has l k ≡ true → set k ≡ true → p k ≡ true

-- the label has the clash, and is within each label that has it
pub record IsClashLabel (r : Rules) (clash : Clash) (p : ℕ → Bool) : Type 0 where
  pub has_it : is_clash r p clash ≡ true
  pub least : (q : ℕ → Bool) → is_clash r q clash ≡ true → Implies p q
