-- Normal forms mean what their concept and its complement mean.
use Rattle.std.proofs.Common.{◌≡◌, ◌∙◌, ℕ, not, ◌&&◌, ◌||◌, ap, refl, sym, subst}
use Rattle.dd_concept.specs.declared.concept.Concept.{Concept}
use Rattle.dd_concept.specs.declared.concept.Concept.TheVariants.{Top, Bottom, Name, Not, And, Or, HasSome, HasAll}
use Rattle.dd_concept.specs.Normal.{normal, normal_at, nnf_of, nnf_not_of}
use Rattle.dd_concept.proofs.Folds.{fold-Top, fold-Bottom, fold-Name, fold-Not, fold-And, fold-Or, fold-HasSome, fold-HasAll}
use Rattle.dd_concept.proofs.Induction.{induct}
use Rattle.dd_interp.specs.declared.interp.Interp.{Interp}
use Rattle.dd_interp.specs.Meaning.{meaning}
use Rattle.dd_interp.proofs.Meanings.{meaning-Top, meaning-Bottom, meaning-Not, meaning-And, meaning-Or, meaning-HasSome, meaning-HasAll}
use Rattle.dd_interp.proofs.Quantifiers.{not-and, not-or, not-not, not-some_along, not-all_along, some_along-same, all_along-same}

-- the first concept means what c means, and the second what its complement means
pub record Means (i : Interp) (c : Concept) (p : Concept × Concept) : Type 0 where
  pub same : (x : ℕ) → meaning i p.0 x ≡ meaning i c x
  pub other : (x : ℕ) → meaning i p.1 x ≡ not (meaning i c x)

module _ (i : Interp) where
  means-Top : Means i Top (Top, Bottom)
  means-Top = record { same = λ x. refl; other = λ x. meaning-Bottom i x ∙ ap not (sym (meaning-Top i x)) }

  means-Bottom : Means i Bottom (Bottom, Top)
  means-Bottom = record { same = λ x. refl; other = λ x. meaning-Top i x ∙ ap not (sym (meaning-Bottom i x)) }

  means-Name : (a : ℕ) → Means i (Name a) (Name a, Not (Name a))
  means-Name a = record { same = λ x. refl; other = λ x. meaning-Not i (Name a) x }

  means-Not : (c : Concept) (p : Concept × Concept) → Means i c p → Means i (Not c) (p.1, p.0)
  means-Not c p h = record {
    same = λ x. h.other x ∙ sym (meaning-Not i c x);
    other = λ x. h.same x ∙ sym (not-not (meaning i c x)) ∙ ap not (sym (meaning-Not i c x));
  }

  means-And : (c d : Concept) (p q : Concept × Concept) → Means i c p → Means i d q → Means i (And c d) (And p.0 q.0, Or p.1 q.1)
  means-And c d p q h k = record {
    same = λ x. meaning-And i p.0 q.0 x ∙ ap (λ v. v && meaning i q.0 x) (h.same x) ∙ ap (λ v. meaning i c x && v) (k.same x)
        ∙ sym (meaning-And i c d x);
    other = λ x. meaning-Or i p.1 q.1 x ∙ ap (λ v. v || meaning i q.1 x) (h.other x) ∙ ap (λ v. not (meaning i c x) || v) (k.other x)
        ∙ sym (not-and (meaning i c x) (meaning i d x)) ∙ ap not (sym (meaning-And i c d x));
  }

  means-Or : (c d : Concept) (p q : Concept × Concept) → Means i c p → Means i d q → Means i (Or c d) (Or p.0 q.0, And p.1 q.1)
  means-Or c d p q h k = record {
    same = λ x. meaning-Or i p.0 q.0 x ∙ ap (λ v. v || meaning i q.0 x) (h.same x) ∙ ap (λ v. meaning i c x || v) (k.same x)
        ∙ sym (meaning-Or i c d x);
    other = λ x. meaning-And i p.1 q.1 x ∙ ap (λ v. v && meaning i q.1 x) (h.other x) ∙ ap (λ v. not (meaning i c x) && v) (k.other x)
        ∙ sym (not-or (meaning i c x) (meaning i d x)) ∙ ap not (sym (meaning-Or i c d x));
  }

  means-HasSome : (r : ℕ) (c : Concept) (p : Concept × Concept) → Means i c p → Means i (HasSome r c) (HasSome r p.0, HasAll r p.1)
  means-HasSome r c p h = record {
    same = λ x. meaning-HasSome i r p.0 x ∙ some_along-same r (meaning i p.0) (meaning i c) x h.same i.roles ∙ sym (meaning-HasSome i r c x);
    other = λ x. meaning-HasAll i r p.1 x ∙ all_along-same r (meaning i p.1) (λ y. not (meaning i c y)) x h.other i.roles
        ∙ sym (not-some_along r (meaning i c) x i.roles) ∙ ap not (sym (meaning-HasSome i r c x));
  }

  means-HasAll : (r : ℕ) (c : Concept) (p : Concept × Concept) → Means i c p → Means i (HasAll r c) (HasAll r p.0, HasSome r p.1)
  means-HasAll r c p h = record {
    same = λ x. meaning-HasAll i r p.0 x ∙ all_along-same r (meaning i p.0) (meaning i c) x h.same i.roles ∙ sym (meaning-HasAll i r c x);
    other = λ x. meaning-HasSome i r p.1 x ∙ some_along-same r (meaning i p.1) (λ y. not (meaning i c y)) x h.other i.roles
        ∙ sym (not-all_along r (meaning i c) x i.roles) ∙ ap not (sym (meaning-HasAll i r c x));
  }

  means_normal : (c : Concept) → Means i c (normal c)
  means_normal = induct (λ c. Means i c (normal c)) (record {
    top = subst (Means i Top) (sym (fold-Top (Concept × Concept) normal_at)) means-Top;
    bottom = subst (Means i Bottom) (sym (fold-Bottom (Concept × Concept) normal_at)) means-Bottom;
    name = λ a. subst (Means i (Name a)) (sym (fold-Name (Concept × Concept) normal_at a)) (means-Name a);
    not = λ c h. subst (Means i (Not c)) (sym (fold-Not (Concept × Concept) normal_at c)) (means-Not c (normal c) h);
    and = λ c d h k. subst (Means i (And c d)) (sym (fold-And (Concept × Concept) normal_at c d)) (means-And c d (normal c) (normal d) h k);
    or = λ c d h k. subst (Means i (Or c d)) (sym (fold-Or (Concept × Concept) normal_at c d)) (means-Or c d (normal c) (normal d) h k);
    has_some = λ r c h. subst (Means i (HasSome r c)) (sym (fold-HasSome (Concept × Concept) normal_at r c)) (means-HasSome r c (normal c) h);
    has_all = λ r c h. subst (Means i (HasAll r c)) (sym (fold-HasAll (Concept × Concept) normal_at r c)) (means-HasAll r c (normal c) h);
  })

  pub meaning-nnf_of : (c : Concept) (x : ℕ) → meaning i (nnf_of c) x ≡ meaning i c x
  meaning-nnf_of c = (means_normal c).same

  pub meaning-nnf_not_of : (c : Concept) (x : ℕ) → meaning i (nnf_not_of c) x ≡ not (meaning i c x)
  meaning-nnf_not_of c = (means_normal c).other
