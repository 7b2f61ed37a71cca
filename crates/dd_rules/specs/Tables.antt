-- What the tables of a peer hold, and the rules of its labels by them.
use Rattle.std.specs.Prelude.{ℕ, Bool, if◌then◌else◌, ◌<◌, List, [], map, Option, None}
use Rattle.std.specs.List.{slice_index_or}
use Rattle.dd_rules.specs.declared.shape.Shape.{Shape}
use Rattle.dd_rules.specs.declared.shape.Shape.TheVariants as shape
use Rattle.dd_rules.specs.declared.shape.Step.{Step}
use Rattle.dd_rules.specs.declared.shape.Step.TheVariants as way
use Rattle.dd_rules.specs.Numbers.{PropNumbers, Rules}
use Rattle.dd_rules.specs.declared.tables.AxiomNumbers.{AxiomNumbers}

-- the concepts by their forms, the axioms, and of each concept the numbers of the names that it is a conjunction of
pub record Numbered : Type 0 where
  pub shapes : List Shape
  pub axioms : List AxiomNumbers
  pub joined : List (Option (List (Option ℕ)))

-- the parts of a concept are concepts of the closure
abbrev pub IsShapeWithin : ℕ → Shape → Type 0
IsShapeWithin count (shape.And a b) = (a < count) × (b < count)
IsShapeWithin count (shape.Or a b) = (a < count) × (b < count)
IsShapeWithin count (shape.HasSome role c) = c < count
IsShapeWithin count (shape.HasAll role c) = c < count
IsShapeWithin count _ = Unit

-- what an axiom adds are concepts of the closure
pub record IsAxiomWithin (count : ℕ) (a : AxiomNumbers) : Type 0 where
  pub left : a.left < count
  pub right : a.right < count

-- a propagation by the numbers of its onto target, of that one's complement and of its into targets
abbrev pub prop_with : List (Option (List (Option ℕ))) → (ℕ × ℕ × List ℕ) → PropNumbers
prop_with joined p = record { onto = p.0; not_onto = p.1; into = p.2; joined = slice_index_or joined p.0 None }

-- the rules of labels by the tables, under these propagations
abbrev pub tabled_rules : Numbered → List (ℕ × ℕ × List ℕ) → Rules
tabled_rules t props = record { shapes = t.shapes; axioms = t.axioms; props = map (prop_with t.joined) props }

-- the rules by the forms of concepts alone
abbrev pub shape_rules : List Shape → Rules
shape_rules shapes = record { shapes = shapes; axioms = []; props = [] }

-- the step of the propagation with this number: a bridge where the label has its onto target, and else a cut
abbrev pub step_of_prop : (ℕ → Bool) → ℕ → (ℕ × ℕ × List ℕ) → Step
step_of_prop p k t = if p t.0 then way.Bridge k else way.Cut t.0
