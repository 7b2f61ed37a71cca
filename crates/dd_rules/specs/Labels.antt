-- What the calls on labels say of concepts.
use Rattle.std.specs.Prelude.{ℕ, ◌≡◌, true, All, List, map}
use Rattle.dd_concept.specs.declared.concept.Concept.{Concept}
use Rattle.dd_concept.specs.declared.concept.Concept.TheVariants.{Bottom, Name, Not}
use Rattle.dd_concept.specs.Same as same
use Rattle.dd_concept.specs.Steps.{Choice, CallsFor}
use Rattle.dd_concept.specs.Steps as steps
use Rattle.dd_set.specs.Words.{has}
use Rattle.dd_rules.specs.declared.clash.Clash.{Clash}
use Rattle.dd_rules.specs.declared.clash.Clash.TheVariants as way_out
use Rattle.dd_rules.specs.declared.props.Props.{Props}
use Rattle.dd_rules.specs.declared.shape.Step.{Step}
use Rattle.dd_rules.specs.Compiled.{Closure, props_of, rules_in}
use Rattle.dd_rules.specs.Numbers.{additions, concepts_at, place_of}

-- the concepts whose numbers are in the label
abbrev pub seen : Closure → List ℕ → List Concept
seen closure words = concepts_at closure.concepts (has words)

-- the label has what clashes
abbrev pub IsClashOf : List Concept → Clash → Type 0
IsClashOf label way_out.Bottom = same.has label Bottom ≡ true
IsClashOf label (way_out.Name a) = (same.has label (Name a) ≡ true) × (same.has label (Not (Name a)) ≡ true)

-- the step is that of a choice that the label has to make, and adds one of the concepts that the choice adds
pub record IsStepOf (closure : Closure) (props : Props) (label : List Concept) (s : Step) : Type 0 where
  pub choice : Choice
  pub calls : CallsFor closure.axioms (props_of closure.concepts props) label choice
  pub adds : additions (rules_in closure props) s ≡ map (place_of closure.concepts) (steps.additions label choice)
  pub inside : All (λ c. same.has closure.concepts c ≡ true) (steps.additions label choice)
