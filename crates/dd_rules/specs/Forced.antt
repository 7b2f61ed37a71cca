-- What a label is forced to take in, and what follows from a clash by name.
use Rattle.std.specs.Prelude.{ℕ, ◌≡◌, ◌==◌, ◌&&◌, Bool, true, false, not, List, [], ◌∷◌, slice_get}
use Rattle.std.specs.List.{list_any}
use Rattle.std.specs.Option.{option_map_or}
use Rattle.dd_rules.specs.declared.clash.Clash.{Clash}
use Rattle.dd_rules.specs.declared.clash.Clash.TheVariants as way_out
use Rattle.dd_rules.specs.declared.shape.Shape.{Shape}
use Rattle.dd_rules.specs.declared.shape.Shape.TheVariants as shape
use Rattle.dd_rules.specs.declared.shape.Step.{Step}
use Rattle.dd_rules.specs.declared.shape.Step.TheVariants as way
use Rattle.dd_rules.specs.declared.tables.AxiomNumbers.{AxiomNumbers}
use Rattle.dd_rules.specs.Least.{Implies}
use Rattle.dd_rules.specs.Numbers.{Rules, any_at, is_not, is_saturated, keeps_and, keeps_axiom}

-- ---- clashes

abbrev pub is_bottom : Shape → Bool
is_bottom shape.Bottom = true
is_bottom _ = false

-- is this the name
abbrev pub is_name : ℕ → Shape → Bool
is_name a (shape.Name b) = a == b
is_name a _ = false

-- is this a clash of the label: bottom, or a name and its complement
abbrev pub is_clash : Rules → (ℕ → Bool) → Clash → Bool
is_clash r p way_out.Bottom = any_at (λ n s. p n && is_bottom s) r.shapes
is_clash r p (way_out.Name a) = any_at (λ n s. p n && is_name a s) r.shapes && any_at (λ n s. p n && is_not a s) r.shapes

-- ---- forced steps

-- does the step add a number that each saturated label has that has this one
abbrev pub forces : Rules → (ℕ → Bool) → Step → Bool
forces r p (way.And n) = option_map_or (λ s. not (keeps_and p n s)) (slice_get r.shapes n) false
forces r p (way.Axiom k) = option_map_or (λ a. not (keeps_axiom p a)) (slice_get r.axioms k) false
forces r p _ = false

abbrev pub and_numbers : Shape → List ℕ
and_numbers (shape.And a b) = a ∷ b ∷ []
and_numbers _ = []

-- the numbers that a forced step adds
abbrev pub forced_numbers : Rules → Step → List ℕ
forced_numbers r (way.And n) = option_map_or and_numbers (slice_get r.shapes n) []
forced_numbers r (way.Axiom k) = option_map_or (λ (a : AxiomNumbers). a.right ∷ []) (slice_get r.axioms k) []
forced_numbers r _ = []

-- does the step add a number that the label does not have
abbrev pub adds_number : Rules → (ℕ → Bool) → Step → Bool
adds_number r p s = list_any (λ n. not (p n)) (forced_numbers r s)

-- the second label has what the first has, and nothing that not each saturated label has that has the first
pub record IsForcedFrom (r : Rules) (p q : ℕ → Bool) : Type 0 where
  pub above : Implies p q
  pub least : (other : ℕ → Bool) → Implies p other → is_saturated r other ≡ true → Implies q other
