-- For private clauses: what the reader of the grammar tells of a whole text, of its concepts, and of the place where it leaves the grammar.
use Rattle.std.specs.Prelude.{◌≡◌, ℕ, ◌+◌, List, ◌∷◌, ◌++◌, drop, length, codes, IsTrue}
use Rattle.dd_text.specs.Grammar.{Term, term_text, is_written, Begins, IsBadAt, IsConceptText, Spells, SpellsAxiom}
use Rattle.dd_text.specs.Automaton.{signs_of}
use Rattle.dd_text.specs.Grammar.{term_depth}
use Rattle.dd_text.specs.declared.parts.Part.{Part}
use Rattle.dd_text.specs.declared.parts.Before.{Before}
use Rattle.dd_text.specs.declared.parts.Sides.{Sides}
use Rattle.dd_text.specs.declared.parts.ScanErr.{ScanErr}
use Rattle.dd_text.specs.declared.parts.ScanErr.TheVariants as err

-- the part has the nodes and the depth of the term
pub record IsPartOf (p : Part) (t : Term) : Type 0 where
  pub signs : p.signs ≡ signs_of t
  pub depth : p.depth ≡ term_depth t

-- a concept and the byte stand at the front of the text
pub record IsBefore (end : ℕ) (text : List ℕ) (b : Before) : Type 0 where
  pub term : Term
  pub written : IsTrue (is_written term)
  pub part : IsPartOf b.part term
  pub text_is : text ≡ term_text term ++ end ∷ drop b.read text

-- no concept and the byte stand at the front of the text, which stops to be their beginning with this many bytes
pub record Leaves (end : ℕ) (text : List ℕ) (at : ℕ) : Type 0 where
  pub read : List ℕ
  pub rest : List ℕ
  pub text_is : text ≡ read ++ rest
  pub at_is : at ≡ length read + 1
  pub begins : Begins IsConceptText read
  pub outside : (t : Term) (more : List ℕ) → IsTrue (is_written t) → text ≡ term_text t ++ end ∷ more → ⊥
  pub stuck : (b : ℕ) (bs more : List ℕ) (t : Term) (after : List ℕ) → rest ≡ b ∷ bs → IsTrue (is_written t) → read ++ b ∷ more ≡ term_text t ++ end ∷ after → ⊥

abbrev pub LeavesBefore : ℕ → List ℕ → ScanErr → Type 0
LeavesBefore end text (err.Bad at) = Leaves end text at
LeavesBefore end text err.NoMemory = Unit {0}

-- the whole text is a concept's
pub record IsWholeConcept (text : List ℕ) (p : Part) : Type 0 where
  pub term : Term
  pub spelt : Spells text term
  pub part : IsPartOf p term

-- the whole text is an axiom's
pub record IsWholeAxiom (text : List ℕ) (s : Sides) : Type 0 where
  pub left : Term
  pub right : Term
  pub spelt : SpellsAxiom text left right
  pub left_part : IsPartOf s.left left
  pub right_part : IsPartOf s.right right

abbrev pub LeavesGrammar : (List ℕ → Type 0) → List ℕ → ScanErr → Type 0
LeavesGrammar grammar text (err.Bad at) = IsBadAt grammar text at
LeavesGrammar grammar text err.NoMemory = Unit {0}

-- what stands before the sides of an axiom
abbrev pub axiom_head : List ℕ
axiom_head = codes "(implies "
