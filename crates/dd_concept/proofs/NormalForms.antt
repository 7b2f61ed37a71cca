-- Normal forms are in normal form, and the normal form of one is itself.
use Rattle.std.proofs.Common.{◌≡◌, ◌∙◌, ℕ, Bool, true, ◌&&◌, ap, subst, sym}
use Rattle.dd_concept.specs.declared.concept.Concept.{Concept}
use Rattle.dd_concept.specs.declared.concept.Concept.TheOpen.{Concept-F}
use Rattle.dd_concept.specs.declared.concept.Concept.TheVariants.{Top, Bottom, Name, Not, And, Or, HasSome, HasAll}
use Rattle.dd_concept.specs.Normal.{normal, normal_at, nnf_of, nnf_not_of, stands, stands_at, IsNormal}
use Rattle.dd_concept.proofs.Folds.{fold-Top, fold-Bottom, fold-Name, fold-Not, fold-And, fold-Or, fold-HasSome, fold-HasAll}
use Rattle.dd_concept.proofs.Induction.{induct}

-- two concepts that are each other's normal forms of the complement
pub record IsPair (p : Concept × Concept) : Type 0 where
  pub same : normal p.0 ≡ p
  pub other : normal p.1 ≡ (p.1, p.0)
  pub normal_form : (stands p.0).1 ≡ true
  pub normal_form_not : (stands p.1).1 ≡ true

both : (a b : Bool) → a ≡ true → b ≡ true → (a && b) ≡ true
both a b h k = ap (λ v. v && b) h ∙ k

pair-Top : IsPair (Top, Bottom)
pair-Top = record {
  same = fold-Top (Concept × Concept) normal_at;
  other = fold-Bottom (Concept × Concept) normal_at;
  normal_form = ap (λ v. v.1) (fold-Top (Bool × Bool) stands_at);
  normal_form_not = ap (λ v. v.1) (fold-Bottom (Bool × Bool) stands_at);
}

pair-swap : (p : Concept × Concept) → IsPair p → IsPair (p.1, p.0)
pair-swap p h = record { same = h.other; other = h.same; normal_form = h.normal_form_not; normal_form_not = h.normal_form }

pair-Name : (a : ℕ) → IsPair (Name a, Not (Name a))
pair-Name a = record {
  same = fold-Name (Concept × Concept) normal_at a;
  other = fold-Not (Concept × Concept) normal_at (Name a) ∙ ap (λ v. normal_at (Concept-F.Not v)) (fold-Name (Concept × Concept) normal_at a);
  normal_form = ap (λ v. v.1) (fold-Name (Bool × Bool) stands_at a);
  normal_form_not = ap (λ v. v.1) (fold-Not (Bool × Bool) stands_at (Name a)) ∙ ap (λ v. v.0) (fold-Name (Bool × Bool) stands_at a);
}

pair-And : (p q : Concept × Concept) → IsPair p → IsPair q → IsPair (And p.0 q.0, Or p.1 q.1)
pair-And p q h k = record {
  same = fold-And (Concept × Concept) normal_at p.0 q.0
      ∙ ap (λ v. normal_at (Concept-F.And v (normal q.0))) h.same ∙ ap (λ v. normal_at (Concept-F.And p v)) k.same;
  other = fold-Or (Concept × Concept) normal_at p.1 q.1
      ∙ ap (λ v. normal_at (Concept-F.Or v (normal q.1))) h.other ∙ ap (λ v. normal_at (Concept-F.Or (p.1, p.0) v)) k.other;
  normal_form = ap (λ v. v.1) (fold-And (Bool × Bool) stands_at p.0 q.0) ∙ both (stands p.0).1 (stands q.0).1 h.normal_form k.normal_form;
  normal_form_not = ap (λ v. v.1) (fold-Or (Bool × Bool) stands_at p.1 q.1) ∙ both (stands p.1).1 (stands q.1).1 h.normal_form_not k.normal_form_not;
}

pair-HasSome : (r : ℕ) (p : Concept × Concept) → IsPair p → IsPair (HasSome r p.0, HasAll r p.1)
pair-HasSome r p h = record {
  same = fold-HasSome (Concept × Concept) normal_at r p.0 ∙ ap (λ v. normal_at (Concept-F.HasSome r v)) h.same;
  other = fold-HasAll (Concept × Concept) normal_at r p.1 ∙ ap (λ v. normal_at (Concept-F.HasAll r v)) h.other;
  normal_form = ap (λ v. v.1) (fold-HasSome (Bool × Bool) stands_at r p.0) ∙ h.normal_form;
  normal_form_not = ap (λ v. v.1) (fold-HasAll (Bool × Bool) stands_at r p.1) ∙ h.normal_form_not;
}

-- the pairs with the two quantifiers, or the two connectives, in the other order are the same pairs swapped
pair-Or : (p q : Concept × Concept) → IsPair p → IsPair q → IsPair (Or p.0 q.0, And p.1 q.1)
pair-Or p q h k = pair-swap (And p.1 q.1, Or p.0 q.0) (pair-And (p.1, p.0) (q.1, q.0) (pair-swap p h) (pair-swap q k))

pair-HasAll : (r : ℕ) (p : Concept × Concept) → IsPair p → IsPair (HasAll r p.0, HasSome r p.1)
pair-HasAll r p h = pair-swap (HasSome r p.1, HasAll r p.0) (pair-HasSome r (p.1, p.0) (pair-swap p h))

-- a concept's two normal forms are each other's normal forms of the complement
pub normal_is_pair : (c : Concept) → IsPair (normal c)
normal_is_pair = induct (λ c. IsPair (normal c)) (record {
  top = subst IsPair (sym (fold-Top (Concept × Concept) normal_at)) pair-Top;
  bottom = subst IsPair (sym (fold-Bottom (Concept × Concept) normal_at)) (pair-swap (Top, Bottom) pair-Top);
  name = λ a. subst IsPair (sym (fold-Name (Concept × Concept) normal_at a)) (pair-Name a);
  not = λ c h. subst IsPair (sym (fold-Not (Concept × Concept) normal_at c)) (pair-swap (normal c) h);
  and = λ c d h k. subst IsPair (sym (fold-And (Concept × Concept) normal_at c d)) (pair-And (normal c) (normal d) h k);
  or = λ c d h k. subst IsPair (sym (fold-Or (Concept × Concept) normal_at c d)) (pair-Or (normal c) (normal d) h k);
  has_some = λ r c h. subst IsPair (sym (fold-HasSome (Concept × Concept) normal_at r c)) (pair-HasSome r (normal c) h);
  has_all = λ r c h. subst IsPair (sym (fold-HasAll (Concept × Concept) normal_at r c)) (pair-HasAll r (normal c) h);
})

pub nnf_of-nnf_of : (c : Concept) → nnf_of (nnf_of c) ≡ nnf_of c
nnf_of-nnf_of c = ap (λ v. v.0) (normal_is_pair c).same

pub nnf_not_of-nnf_of : (c : Concept) → nnf_not_of (nnf_of c) ≡ nnf_not_of c
nnf_not_of-nnf_of c = ap (λ v. v.1) (normal_is_pair c).same

pub nnf_of-nnf_not_of : (c : Concept) → nnf_of (nnf_not_of c) ≡ nnf_not_of c
nnf_of-nnf_not_of c = ap (λ v. v.0) (normal_is_pair c).other

pub nnf_not_of-nnf_not_of : (c : Concept) → nnf_not_of (nnf_not_of c) ≡ nnf_of c
nnf_not_of-nnf_not_of c = ap (λ v. v.1) (normal_is_pair c).other

pub nnf_of-IsNormal : (c : Concept) → IsNormal (nnf_of c)
nnf_of-IsNormal c = (normal_is_pair c).normal_form

pub nnf_not_of-IsNormal : (c : Concept) → IsNormal (nnf_not_of c)
nnf_not_of-IsNormal c = (normal_is_pair c).normal_form_not
