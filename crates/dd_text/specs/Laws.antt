-- Reading and printing are inverse, and a text is that of one tree.
use Rattle.std.specs.Prelude.{◌≡◌, ℕ, ◌<◌, ◌≤◌, List, IsTrue, Result, Ok, Err}
use Rattle.dd_concept.specs.declared.concept.Concept.{Concept}
use Rattle.dd_concept.specs.declared.concept.Axiom.{Axiom}
use Rattle.dd_concept.specs.Counts.{depth_of, node_count}
use Rattle.dd_text.specs.Symbols.{IsNumbering, SymbolLists}
use Rattle.dd_text.specs.Grammar.{Spells, SpellsAxiom, Term}
use Rattle.dd_text.specs.Text.{axiom_text_of, concept_text, has_symbols}
use Rattle.dd_text.specs.Reads.{IsAxiomOf, IsConceptOf, IsFirstOver, ReadsAxiom, ReadsConcept, told}
use Rattle.dd_text.specs.declared.read.Limits.{Limits}
use Rattle.dd_text.specs.declared.read.TextErr.{TextErr}
use Rattle.dd_text.specs.declared.read.TextErr.TheVariants as err

-- each text is that of at most one concept, and of at most one axiom
abbrev pub ConceptTextsAreUnique : Type 0
ConceptTextsAreUnique = (text : List ℕ) (t u : Term) → Spells text t → Spells text u → t ≡ u

abbrev pub AxiomTextsAreUnique : Type 0
AxiomTextsAreUnique = (text : List ℕ) (l r l' r' : Term) → SpellsAxiom text l r → SpellsAxiom text l' r' → (l ≡ l') × (r ≡ r')

-- why the text of this concept is refused: it is too large, or it is not and is too deep, each told with its number; or
-- there is no memory
abbrev pub RefusesPrinted : Limits → Concept → TextErr → Type 0
RefusesPrinted limits c (err.TooLarge nodes) = (limits.nodes < node_count c) × (nodes ≡ told (node_count c))
RefusesPrinted limits c (err.TooDeep depth) = (node_count c ≤ limits.nodes) × (limits.depth < depth_of c) × (depth ≡ told (depth_of c))
RefusesPrinted limits c err.NoMemory = Unit {0}
RefusesPrinted limits c e = ⊥

abbrev pub ReadsPrinted : Limits → Concept → Result Concept TextErr → Type 0
ReadsPrinted limits c (Ok d) = d ≡ c
ReadsPrinted limits c (Err e) = RefusesPrinted limits c e

-- what is read of a printed concept is the concept, and the symbols stay
abbrev pub PrintedConceptsRead : Type 0
PrintedConceptsRead = (s : SymbolLists) (limits : Limits) (c : Concept) (new : SymbolLists) (result : Result Concept TextErr)
    → IsNumbering s → IsTrue (has_symbols s c) → ReadsConcept s limits (concept_text s c) new result → (new ≡ s) × ReadsPrinted limits c result

-- what is printed of a concept that was read is the text
abbrev pub ReadConceptsPrint : Type 0
ReadConceptsPrint = (old new : SymbolLists) (limits : Limits) (text : List ℕ) (c : Concept) → IsConceptOf old limits text new c → concept_text new c ≡ text

-- why the text of this axiom is refused: a side is too large, or none is and a side is too deep, the left side is tested
-- first and the number is that of the side; or there is no memory
abbrev pub RefusesPrintedAxiom : Limits → Axiom → TextErr → Type 0
RefusesPrintedAxiom limits a (err.TooLarge nodes) = (n : ℕ) × IsFirstOver limits.nodes (node_count a.left) (node_count a.right) n × (nodes ≡ told n)
RefusesPrintedAxiom limits a (err.TooDeep depth) =
    (node_count a.left ≤ limits.nodes) × (node_count a.right ≤ limits.nodes) × (n : ℕ) × IsFirstOver limits.depth (depth_of a.left) (depth_of a.right) n × (depth ≡ told n)
RefusesPrintedAxiom limits a err.NoMemory = Unit {0}
RefusesPrintedAxiom limits a e = ⊥

abbrev pub ReadsPrintedAxiom : Limits → Axiom → Result Axiom TextErr → Type 0
ReadsPrintedAxiom limits a (Ok b) = b ≡ a
ReadsPrintedAxiom limits a (Err e) = RefusesPrintedAxiom limits a e

-- what is read of a printed axiom is the axiom, and the symbols stay
abbrev pub PrintedAxiomsRead : Type 0
PrintedAxiomsRead = (s : SymbolLists) (limits : Limits) (a : Axiom) (new : SymbolLists) (result : Result Axiom TextErr)
    → IsNumbering s → IsTrue (has_symbols s a.left) → IsTrue (has_symbols s a.right) → ReadsAxiom s limits (axiom_text_of s a) new result → (new ≡ s) × ReadsPrintedAxiom limits a result

-- what is printed of an axiom that was read is the text
abbrev pub ReadAxiomsPrint : Type 0
ReadAxiomsPrint = (old new : SymbolLists) (limits : Limits) (text : List ℕ) (a : Axiom) → IsAxiomOf old limits text new a → axiom_text_of new a ≡ text
