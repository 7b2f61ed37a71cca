-- Subconcepts, by the form of the concept.
use Rattle.std.proofs.Common.{◌≡◌, ◌∙◌, ap, ap₂, ℕ, List, [], ◌∷◌, ◌++◌}
use Rattle.dd_concept.specs.declared.concept.Concept.{Concept}
use Rattle.dd_concept.specs.declared.concept.Concept.TheVariants.{Top, Bottom, Name, Not, And, Or, HasSome, HasAll}
use Rattle.dd_concept.proofs.Folds.{fold-Top, fold-Bottom, fold-Name, fold-Not, fold-And, fold-Or, fold-HasSome, fold-HasAll}
use Rattle.dd_concept.proofs.Induction.{induct}
use Rattle.dd_concept.specs.Parts.{with_parts, with_parts_at, parts_in_order}

abbrev Whole : Type 0
Whole = Concept × List Concept

with_parts-whole : (c : Concept) → (with_parts c).0 ≡ c
unfolding with_parts
with_parts-whole = induct (λ c. (with_parts c).0 ≡ c) (record {
  top = ap (λ (w : Whole). w.0) (fold-Top Whole with_parts_at);
  bottom = ap (λ (w : Whole). w.0) (fold-Bottom Whole with_parts_at);
  name = λ a. ap (λ (w : Whole). w.0) (fold-Name Whole with_parts_at a);
  not = λ c h. ap (λ (w : Whole). w.0) (fold-Not Whole with_parts_at c) ∙ ap Not h;
  and = λ c d h k. ap (λ (w : Whole). w.0) (fold-And Whole with_parts_at c d) ∙ ap₂ And h k;
  or = λ c d h k. ap (λ (w : Whole). w.0) (fold-Or Whole with_parts_at c d) ∙ ap₂ Or h k;
  has_some = λ r c h. ap (λ (w : Whole). w.0) (fold-HasSome Whole with_parts_at r c) ∙ ap (HasSome r) h;
  has_all = λ r c h. ap (λ (w : Whole). w.0) (fold-HasAll Whole with_parts_at r c) ∙ ap (HasAll r) h;
})

pub parts-Top : parts_in_order Top ≡ Top ∷ []
unfolding with_parts
parts-Top = ap (λ (w : Whole). w.1) (fold-Top Whole with_parts_at)

pub parts-Bottom : parts_in_order Bottom ≡ Bottom ∷ []
unfolding with_parts
parts-Bottom = ap (λ (w : Whole). w.1) (fold-Bottom Whole with_parts_at)

pub parts-Name : (a : ℕ) → parts_in_order (Name a) ≡ Name a ∷ []
unfolding with_parts
parts-Name a = ap (λ (w : Whole). w.1) (fold-Name Whole with_parts_at a)

pub parts-Not : (c : Concept) → parts_in_order (Not c) ≡ Not c ∷ []
unfolding with_parts
parts-Not c = ap (λ (w : Whole). w.1) (fold-Not Whole with_parts_at c) ∙ ap (λ v. Not v ∷ []) (with_parts-whole c)

pub parts-And : (c d : Concept) → parts_in_order (And c d) ≡ And c d ∷ (parts_in_order c ++ parts_in_order d)
unfolding with_parts
parts-And c d = ap (λ (w : Whole). w.1) (fold-And Whole with_parts_at c d)
    ∙ ap₂ (λ v w. And v w ∷ (parts_in_order c ++ parts_in_order d)) (with_parts-whole c) (with_parts-whole d)

pub parts-Or : (c d : Concept) → parts_in_order (Or c d) ≡ Or c d ∷ (parts_in_order c ++ parts_in_order d)
unfolding with_parts
parts-Or c d = ap (λ (w : Whole). w.1) (fold-Or Whole with_parts_at c d)
    ∙ ap₂ (λ v w. Or v w ∷ (parts_in_order c ++ parts_in_order d)) (with_parts-whole c) (with_parts-whole d)

pub parts-HasSome : (r : ℕ) (c : Concept) → parts_in_order (HasSome r c) ≡ HasSome r c ∷ parts_in_order c
unfolding with_parts
parts-HasSome r c = ap (λ (w : Whole). w.1) (fold-HasSome Whole with_parts_at r c) ∙ ap (λ v. HasSome r v ∷ parts_in_order c) (with_parts-whole c)

pub parts-HasAll : (r : ℕ) (c : Concept) → parts_in_order (HasAll r c) ≡ HasAll r c ∷ parts_in_order c
unfolding with_parts
parts-HasAll r c = ap (λ (w : Whole). w.1) (fold-HasAll Whole with_parts_at r c) ∙ ap (λ v. HasAll r v ∷ parts_in_order c) (with_parts-whole c)
