-- What a peer is compiled to, and its propagations by the numbers of concepts.
use Rattle.std.specs.Prelude.{ℕ, ◌≡◌, ◌<◌, All, List, map, length, refl}
use Rattle.std.specs.List.{slice_index_or}
use Rattle.std.specs.Coded.{Coded, code_by, coded×, coded_list}
use Rattle.dd_concept.specs.contracts.concept.Axiom as axiom_
use Rattle.dd_concept.specs.contracts.concept.Concept as concept
use Rattle.dd_concept.specs.declared.concept.Axiom.{Axiom}
use Rattle.dd_concept.specs.declared.concept.Concept.{Concept}
use Rattle.dd_concept.specs.declared.concept.Concept.TheVariants.{Top}
use Rattle.dd_concept.specs.Normal.{nnf_of, nnf_not_of}
use Rattle.dd_concept.specs.Propagation.{Propagation}
use Rattle.dd_rules.specs.Numbers.{Rules, rules_of, place_of}
use Rattle.dd_rules.specs.declared.props.Props.{Props}

-- a peer's closure in the order of its numbers, and its axioms
pub record Closure : Type 0 where
  pub concepts : List Concept
  pub axioms : List Axiom

-- a closure is stored as the pair of its fields
abbrev pub closure_code : Coded Closure
closure_code =
    code_by (List Concept × List Axiom) (coded× (coded_list concept.the_row.coded) (coded_list axiom_.the_row.coded)) (λ c. (c.concepts, c.axioms))
    (λ p. record { concepts = p.0; axioms = p.1 }) (λ _. refl)

-- the concept with this number; top where there is none
abbrev pub concept_at : List Concept → ℕ → Concept
concept_at concepts n = slice_index_or concepts n Top

-- a propagation by its concepts: the numbers are those of its onto target, of the complement of that, and of its into targets
abbrev pub propagation_of : List Concept → (ℕ × ℕ × List ℕ) → Propagation
propagation_of concepts p = record { onto = concept_at concepts p.0; into = map (concept_at concepts) p.2 }

abbrev pub props_of : List Concept → Props → List Propagation
props_of concepts props = map (propagation_of concepts) props.list

-- the numbers are numbers of concepts, and the second one's concept is the complement of the first one's
pub record IsProp (concepts : List Concept) (p : ℕ × ℕ × List ℕ) : Type 0 where
  pub onto : p.0 < length concepts
  pub not_onto : p.1 < length concepts
  pub complement : concept_at concepts p.1 ≡ nnf_not_of (concept_at concepts p.0)
  pub into : All (λ n. n < length concepts) p.2

abbrev pub AreProps : Closure → Props → Type 0
AreProps closure props = All (IsProp closure.concepts) props.list

-- the numbers of what an axiom adds to a label
abbrev pub sides_numbers : List Concept → Axiom → ℕ × ℕ
sides_numbers concepts a = (place_of concepts (nnf_not_of a.left), place_of concepts (nnf_of a.right))

-- the rules of the peer's labels, in numbers, under these propagations
abbrev pub rules_in : Closure → Props → Rules
rules_in closure props = rules_of closure.concepts closure.axioms (props_of closure.concepts props)
