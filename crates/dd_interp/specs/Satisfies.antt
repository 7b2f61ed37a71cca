-- When a local interpretation is one, and when it satisfies axioms.
use Rattle.std.specs.Prelude.{ℕ, ◌<◌, List, All}
use Rattle.dd_concept.specs.declared.concept.Axiom.{Axiom}
use Rattle.dd_interp.specs.declared.interp.Interp.{Interp}
use Rattle.dd_interp.specs.Meaning.{Holds}

-- each element that a list names is below the size; the size may be 0
pub record IsShaped (i : Interp) : Type 0 where
  pub names : All (λ p. p.1 < i.size) i.names
  pub roles : All (λ t. (t.1 < i.size) × (t.2 < i.size)) i.roles

-- each element of the left concept is one of the right concept
abbrev pub SatisfiesAxiom : Interp → Axiom → Type 0
SatisfiesAxiom i a = (x : ℕ) → x < i.size → Holds i x a.left → Holds i x a.right

abbrev pub SatisfiesAxioms : Interp → List Axiom → Type 0
SatisfiesAxioms i axioms = All (SatisfiesAxiom i) axioms
