-- What the negation normal form does to normal forms.
use Rattle.std.specs.Prelude.{◌≡◌}
use Rattle.dd_concept.specs.declared.concept.Concept.{Concept}
use Rattle.dd_concept.specs.Normal.{nnf_of, nnf_not_of}

-- A normal form is its own normal form, and the normal form of its complement is that of the concept's complement. The same
-- holds of the complement's normal form.
pub record NormalFormsStay : Type 0 where
  pub same : (c : Concept) → nnf_of (nnf_of c) ≡ nnf_of c
  pub complement : (c : Concept) → nnf_not_of (nnf_of c) ≡ nnf_not_of c
  pub same_not : (c : Concept) → nnf_of (nnf_not_of c) ≡ nnf_not_of c
  pub complement_not : (c : Concept) → nnf_not_of (nnf_not_of c) ≡ nnf_of c
