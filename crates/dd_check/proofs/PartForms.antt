-- Equality with a concept that is known by its form: a question about the other's form and parts.
use Rattle.std.proofs.Common.{◌≡◌, ◌∙◌, ◌==◌, refl, sym, ap, ℕ, true, false}
use Rattle.std.proofs.lemmas.Bool.{false_from_ne_true}
use Rattle.dd_concept.specs.declared.concept.Concept.{Concept}
use Rattle.dd_concept.specs.declared.concept.Concept.TheOpen.{Concept-F}
use Rattle.dd_concept.specs.declared.concept.Concept.TheViews.{out-Concept, outs-Name, outs-Not}
use Rattle.dd_concept.specs.declared.concept.Concept.TheVariants.{Name, Not, And, Or, HasSome, HasAll}
use Rattle.dd_concept.specs.Forms.{and_form, or_form, some_form, and_of, or_of, some_of}
use Rattle.dd_concept.specs.Same.{is_same, is_same_at}
use Rattle.dd_concept.proofs.SameForms.{same-Name, same-Not, same-And, same-Or, same-HasSome, same-HasAll}
use Rattle.dd_concept.proofs.SameIs.{is_same-is, is-is_same}
use Rattle.dd_task.specs.Lines.{is_there}
use Rattle.dd_check.specs.Parts.{all_form, all_of, are_parts, is_along}

-- a concept that is none of the form
pub differs : (x c : Concept) → (x ≡ c → ⊥) → false ≡ is_same x c
differs x c apart = sym (false_from_ne_true (is_same x c) (λ t. apart (is_same-is x c t)))

pub same-at : (x c : Concept) → c ≡ x → true ≡ is_same x c
same-at x c e = sym (is-is_same x c (sym e))

pub name-at : (a b : ℕ) (c : Concept) → c ≡ Name b → (a == b) ≡ is_same (Name a) c
name-at a b c e = sym (same-Name a c ∙ ap (λ d. is_same_at (Concept-F.Name a) (out-Concept d)) e ∙ ap (is_same_at (Concept-F.Name a)) (outs-Name b))

pub no_name : (a : ℕ) (c : Concept) → ((b : ℕ) → c ≡ Name b → ⊥) → false ≡ is_same (Name a) c
no_name a c none = differs (Name a) c (λ e. none a (sym e))

pub not-at : (x d c : Concept) → c ≡ Not d → is_same x d ≡ is_same (Not x) c
not-at x d c e = sym (same-Not x c ∙ ap (λ y. is_same_at (Concept-F.Not (is_same x)) (out-Concept y)) e ∙ ap (is_same_at (Concept-F.Not (is_same x))) (outs-Not d))

pub no_not : (x c : Concept) → ((d : Concept) → c ≡ Not d → ⊥) → false ≡ is_same (Not x) c
no_not x c none = differs (Not x) c (λ e. none x (sym e))

-- ---- by the parts

and-parts : (x y : Concept) (c : Concept-F Concept) → is_same_at (Concept-F.And (is_same x) (is_same y)) c ≡ is_there (and_form c) (are_parts x y)
and-parts x y (Concept-F.And c d) = refl
and-parts x y _ = refl

or-parts : (x y : Concept) (c : Concept-F Concept) → is_same_at (Concept-F.Or (is_same x) (is_same y)) c ≡ is_there (or_form c) (are_parts x y)
or-parts x y (Concept-F.Or c d) = refl
or-parts x y _ = refl

some-part : (r : ℕ) (x : Concept) (c : Concept-F Concept) → is_same_at (Concept-F.HasSome r (is_same x)) c ≡ is_there (some_form c) (is_along r x)
some-part r x (Concept-F.HasSome s d) = refl
some-part r x _ = refl

all-part : (r : ℕ) (x : Concept) (c : Concept-F Concept) → is_same_at (Concept-F.HasAll r (is_same x)) c ≡ is_there (all_form c) (is_along r x)
all-part r x (Concept-F.HasAll s d) = refl
all-part r x _ = refl

pub and-at : (x y c : Concept) → is_there (and_of c) (are_parts x y) ≡ is_same (And x y) c
and-at x y c = sym (same-And x y c ∙ and-parts x y (out-Concept c))

pub or-at : (x y c : Concept) → is_there (or_of c) (are_parts x y) ≡ is_same (Or x y) c
or-at x y c = sym (same-Or x y c ∙ or-parts x y (out-Concept c))

pub some-at : (r : ℕ) (x c : Concept) → is_there (some_of c) (is_along r x) ≡ is_same (HasSome r x) c
some-at r x c = sym (same-HasSome r x c ∙ some-part r x (out-Concept c))

pub all-at : (r : ℕ) (x c : Concept) → is_there (all_of c) (is_along r x) ≡ is_same (HasAll r x) c
all-at r x c = sym (same-HasAll r x c ∙ all-part r x (out-Concept c))
