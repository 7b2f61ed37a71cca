-- What reading a text answers: each answer's cause, in the order in which they are tested, and the symbols after it.
use Rattle.std.specs.Prelude.{◌≡◌, ℕ, ◌<◌, ◌≤◌, ◌⊎◌, List, min, Result, Ok, Err}
use Rattle.dd_concept.specs.declared.concept.Concept.{Concept}
use Rattle.dd_concept.specs.declared.concept.Axiom.{Axiom}
use Rattle.dd_concept.specs.Counts.{depth_of, node_count}
use Rattle.dd_concept.specs.Sizes.{most_nodes, most_depth, most_normal_nodes, most_normal_depth}
use Rattle.dd_text.specs.Symbols.{SymbolLists, most_symbols, symbol_count}
use Rattle.dd_text.specs.Grammar.{Term, IsAxiomText, IsBadAt, IsConceptText, Spells, SpellsAxiom, term_depth, term_nodes}
use Rattle.dd_text.specs.Text.{axiom_of, concept_of, with_term}
use Rattle.dd_text.specs.declared.read.Limits.{Limits}
use Rattle.dd_text.specs.declared.read.TextErr.{TextErr}
use Rattle.dd_text.specs.declared.read.TextErr.TheVariants as err

-- how a number is told: as it is, or as the largest that is told
abbrev pub told : ℕ → ℕ
told n = min n 4294967295

-- the limits of a concept in a request, and in a certificate
abbrev pub request_limits : Limits
request_limits = record { nodes = most_nodes; depth = most_depth }

abbrev pub cert_limits : Limits
cert_limits = record { nodes = most_normal_nodes; depth = most_normal_depth }

-- the term is within the limits
pub record IsWithin (limits : Limits) (t : Term) : Type 0 where
  pub nodes : term_nodes t ≤ limits.nodes
  pub depth : term_depth t ≤ limits.depth

-- the concept is within the limits
pub record IsSmall (limits : Limits) (c : Concept) : Type 0 where
  pub nodes : node_count c ≤ limits.nodes
  pub depth : depth_of c ≤ limits.depth

-- n is the first of two numbers that is above the limit
abbrev pub IsFirstOver : ℕ → ℕ → ℕ → ℕ → Type 0
IsFirstOver limit a b n = ((limit < a) × (n ≡ a)) ⊎ ((a ≤ limit) × (limit < b) × (n ≡ b))

-- the text is that of a concept, which is answered, and its new symbols have been added
pub record IsConceptOf (old : SymbolLists) (limits : Limits) (text : List ℕ) (new : SymbolLists) (c : Concept) : Type 0 where
  pub term : Term
  pub spelt : Spells text term
  pub small : IsWithin limits term
  pub room : symbol_count new ≤ most_symbols
  pub symbols : new ≡ with_term old term
  pub concept : c ≡ concept_of new term

-- why the text of a concept is refused
abbrev pub RefusesConcept : SymbolLists → Limits → List ℕ → TextErr → Type 0
RefusesConcept old limits text (err.Bad at) = (n : ℕ) × IsBadAt IsConceptText text n × (at ≡ told n)
RefusesConcept old limits text (err.TooLarge nodes) = (t : Term) × Spells text t × (limits.nodes < term_nodes t) × (nodes ≡ told (term_nodes t))
RefusesConcept old limits text (err.TooDeep depth) = (t : Term) × Spells text t × (term_nodes t ≤ limits.nodes) × (limits.depth < term_depth t) × (depth ≡ told (term_depth t))
RefusesConcept old limits text err.SymbolsFull = (t : Term) × Spells text t × IsWithin limits t × (most_symbols < symbol_count (with_term old t))
RefusesConcept old limits text err.NoMemory = Unit {0}

abbrev pub ReadsConcept : SymbolLists → Limits → List ℕ → SymbolLists → Result Concept TextErr → Type 0
ReadsConcept old limits text new (Ok c) = IsConceptOf old limits text new c
ReadsConcept old limits text new (Err e) = (new ≡ old) × RefusesConcept old limits text e

-- the text is that of an axiom, which is answered, and its new symbols have been added
pub record IsAxiomOf (old : SymbolLists) (limits : Limits) (text : List ℕ) (new : SymbolLists) (a : Axiom) : Type 0 where
  pub left : Term
  pub right : Term
  pub spelt : SpellsAxiom text left right
  pub left_small : IsWithin limits left
  pub right_small : IsWithin limits right
  pub room : symbol_count new ≤ most_symbols
  pub symbols : new ≡ with_term (with_term old left) right
  pub sides : a ≡ axiom_of new left right

-- why the text of an axiom is refused: the sides are counted apart, the left one first
abbrev pub RefusesAxiom : SymbolLists → Limits → List ℕ → TextErr → Type 0
RefusesAxiom old limits text (err.Bad at) = (n : ℕ) × IsBadAt IsAxiomText text n × (at ≡ told n)
RefusesAxiom old limits text (err.TooLarge nodes) =
    (l : Term) × (r : Term) × SpellsAxiom text l r × (n : ℕ) × IsFirstOver limits.nodes (term_nodes l) (term_nodes r) n × (nodes ≡ told n)
RefusesAxiom old limits text (err.TooDeep depth) =
    (l : Term) × (r : Term) × SpellsAxiom text l r × (term_nodes l ≤ limits.nodes) × (term_nodes r ≤ limits.nodes) × (n : ℕ) × IsFirstOver limits.depth (term_depth l) (term_depth r) n × (depth ≡ told n)
RefusesAxiom old limits text err.SymbolsFull =
    (l : Term) × (r : Term) × SpellsAxiom text l r × IsWithin limits l × IsWithin limits r × (most_symbols < symbol_count (with_term (with_term old l) r))
RefusesAxiom old limits text err.NoMemory = Unit {0}

abbrev pub ReadsAxiom : SymbolLists → Limits → List ℕ → SymbolLists → Result Axiom TextErr → Type 0
ReadsAxiom old limits text new (Ok a) = IsAxiomOf old limits text new a
ReadsAxiom old limits text new (Err e) = (new ≡ old) × RefusesAxiom old limits text e
