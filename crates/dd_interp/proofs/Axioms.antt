-- A disjoint union satisfies what both parts satisfy.
use Rattle.std.proofs.Common.{◌≡◌, ◌∙◌, ◌+◌, ◌-◌, ◌<◌, List, slice_index_or, subst, sym, inl, inr, arith}
use Rattle.std.proofs.lemmas.Bool.{cases_lt}
use Rattle.dd_concept.specs.declared.concept.Axiom.{Axiom}
use Rattle.dd_interp.specs.declared.interp.Interp.{Interp}
use Rattle.dd_interp.specs.Meaning.{Holds}
use Rattle.dd_interp.specs.Satisfies.{SatisfiesAxiom, SatisfiesAxioms}
use Rattle.dd_interp.specs.Union.{KeepsEach}

module _ (i j new : Interp) (size : new.size ≡ i.size + j.size) (keeps : KeepsEach i j new) where
  pub SatisfiesAxiom-union : (a : Axiom) → SatisfiesAxiom i a → SatisfiesAxiom j a → SatisfiesAxiom new a
  SatisfiesAxiom-union a p q x lt h = elim (cases_lt x i.size) [
    | inl low ↦ keeps.lower a.right x low ∙ p x low (sym (keeps.lower a.left x low) ∙ h)
    | inr high ↦
        let e : (x - i.size) + i.size ≡ x = omega (arith, high) in
        let below : x - i.size < j.size = omega (arith, high, lt, size) in
        let left : Holds new ((x - i.size) + i.size) a.left = subst (λ y. Holds new y a.left) (sym e) h in
        subst (λ y. Holds new y a.right) e
        (keeps.upper a.right (x - i.size) below ∙ q (x - i.size) below (sym (keeps.upper a.left (x - i.size) below) ∙ left))
  ]

  pub SatisfiesAxioms-union : (axioms : List Axiom) → SatisfiesAxioms i axioms → SatisfiesAxioms j axioms → SatisfiesAxioms new axioms
  SatisfiesAxioms-union axioms p q k d lt = SatisfiesAxiom-union (slice_index_or axioms k d) (p k d lt) (q k d lt)
