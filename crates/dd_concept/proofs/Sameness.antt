-- When two concepts are the same tree, by their forms and their parts.
use Rattle.std.proofs.Common.{◌≡◌, ◌↔◌, ◌==◌, IsTrue, Bool, true, false, ℕ, sym, ap, ap₂, ◌∙◌}
use Rattle.std.proofs.lemmas.Bool.{false≢true, eqb-true, eq-eqb}
use Rattle.dd_concept.specs.declared.concept.Concept.{Concept}
use Rattle.dd_concept.specs.declared.concept.Concept.TheOpen.{Concept-F}
use Rattle.dd_concept.specs.declared.concept.Concept.TheVariants.{Name, Not, And, Or, HasSome, HasAll}
use Rattle.dd_concept.specs.declared.concept.Concept.TheViews.{out-Concept, outs-Name, outs-Not, outs-And, outs-Or, outs-HasSome, outs-HasAll}

-- ---- the same concepts of one form have the same parts

name_parts : (n m : ℕ) → Name n ≡ Name m → n ≡ m
name_parts n m e = let parts : Concept-F.Name n ≡ Concept-F.Name m = sym (outs-Name n) ∙ ap out-Concept e ∙ outs-Name m in cc

pub not_parts : (c d : Concept) → Not c ≡ Not d → c ≡ d
not_parts c d e = let parts : Concept-F.Not c ≡ Concept-F.Not d = sym (outs-Not c) ∙ ap out-Concept e ∙ outs-Not d in cc

pub and_parts : (c e d g : Concept) → And c e ≡ And d g → (c ≡ d) × (e ≡ g)
and_parts c e d g is = let parts : Concept-F.And c e ≡ Concept-F.And d g = sym (outs-And c e) ∙ ap out-Concept is ∙ outs-And d g in (cc, cc)

pub or_parts : (c e d g : Concept) → Or c e ≡ Or d g → (c ≡ d) × (e ≡ g)
or_parts c e d g is = let parts : Concept-F.Or c e ≡ Concept-F.Or d g = sym (outs-Or c e) ∙ ap out-Concept is ∙ outs-Or d g in (cc, cc)

pub some_parts : (r s : ℕ) (c d : Concept) → HasSome r c ≡ HasSome s d → (r ≡ s) × (c ≡ d)
some_parts r s c d is = let parts : Concept-F.HasSome r c ≡ Concept-F.HasSome s d = sym (outs-HasSome r c) ∙ ap out-Concept is ∙ outs-HasSome s d in (cc, cc)

pub all_parts : (r s : ℕ) (c d : Concept) → HasAll r c ≡ HasAll s d → (r ≡ s) × (c ≡ d)
all_parts r s c d is = let parts : Concept-F.HasAll r c ≡ Concept-F.HasAll s d = sym (outs-HasAll r c) ∙ ap out-Concept is ∙ outs-HasAll s d in (cc, cc)

-- ---- what a test of the parts says of the concepts

pub differ : (a b : Concept) → (a ≡ b → ⊥) → IsTrue false ↔ (a ≡ b)
differ a b other = (λ h. absurd (false≢true h), λ e. absurd (other e))

pub same_names : (a b : Concept) (n m : ℕ) → a ≡ Name n → b ≡ Name m → IsTrue (n == m) ↔ (a ≡ b)
same_names a b n m is is' = (λ t. is ∙ ap Name (eqb-true n m t) ∙ sym is', λ e. eq-eqb n m (name_parts n m (sym is ∙ e ∙ is')))

pub same_complements : (a b c d c' d' : Concept) (t : Bool) → a ≡ Not c → b ≡ Not d → c' ≡ c → d' ≡ d → IsTrue t ↔ (c' ≡ d') → IsTrue t ↔ (a ≡ b)
same_complements a b c d c' d' t is is' c-is d-is h =
    (λ yes. is ∙ ap Not (sym c-is ∙ h.0 yes ∙ d-is) ∙ sym is', λ e. h.1 (c-is ∙ not_parts c d (sym is ∙ e ∙ is') ∙ sym d-is))

-- two parts: by the second ones where the first ones are the same
module _ (f : Concept → Concept → Concept) (parts : (c e d g : Concept) → f c e ≡ f d g → (c ≡ d) × (e ≡ g)) (a b c e d g c' d' : Concept) (q : Bool) (is : a ≡ f c e) (is' : b ≡ f d g) (c-is : c' ≡ c) (d-is : d' ≡ d) (h : IsTrue q ↔ (c' ≡ d')) where
  pub same_second : (e' g' : Concept) (t : Bool) → q ≡ true → e' ≡ e → g' ≡ g → IsTrue t ↔ (e' ≡ g') → IsTrue t ↔ (a ≡ b)
  same_second e' g' t first e-is g-is k =
      (λ yes. is ∙ ap₂ f (sym c-is ∙ h.0 first ∙ d-is) (sym e-is ∙ k.0 yes ∙ g-is) ∙ sym is', λ s. k.1 (e-is ∙ (parts c e d g (sym is ∙ s ∙ is')).1 ∙ sym g-is))

  pub other_first : q ≡ false → IsTrue q ↔ (a ≡ b)
  other_first differs = (λ yes. absurd (false≢true (sym differs ∙ yes)), λ s. h.1 (c-is ∙ (parts c e d g (sym is ∙ s ∙ is')).0 ∙ sym d-is))

-- a part along a role: by the parts where the roles are the same
module _ (f : ℕ → Concept → Concept) (parts : (r s : ℕ) (c d : Concept) → f r c ≡ f s d → (r ≡ s) × (c ≡ d)) (a b : Concept) (r s : ℕ) (c d : Concept) (is : a ≡ f r c) (is' : b ≡ f s d) where
  pub same_along : (c' d' : Concept) (t : Bool) → r ≡ s → c' ≡ c → d' ≡ d → IsTrue t ↔ (c' ≡ d') → IsTrue t ↔ (a ≡ b)
  same_along c' d' t role c-is d-is h =
      (λ yes. is ∙ ap₂ f role (sym c-is ∙ h.0 yes ∙ d-is) ∙ sym is', λ e. h.1 (c-is ∙ (parts r s c d (sym is ∙ e ∙ is')).1 ∙ sym d-is))

  pub other_role : (r ≡ s → ⊥) → IsTrue (r == s) ↔ (a ≡ b)
  other_role other = (λ yes. absurd (other (eqb-true r s yes)), λ e. absurd (other (parts r s c d (sym is ∙ e ∙ is')).0))
