-- What a fold over concepts gives at each variant.
use Rattle.std.proofs.Common.{◌≡◌, ◌∙◌, ℕ, ap}
use denote.Hole.Carrier.{roll}
use Rattle.dd_concept.specs.declared.concept.Concept.{Concept}
use Rattle.dd_concept.specs.declared.concept.Concept.TheOpen.{Concept-F}
use Rattle.dd_concept.specs.declared.concept.Concept.TheViews.{roll-Concept}
use Rattle.dd_concept.specs.declared.concept.Concept.TheFolds.{fold-Concept, fold-roll-Concept}
use Rattle.dd_concept.specs.declared.concept.Concept.TheVariants.{Top, Bottom, Name, Not, And, Or, HasSome, HasAll, rolls-Top, rolls-Bottom, rolls-Name, rolls-Not, rolls-And, rolls-Or, rolls-HasSome, rolls-HasAll}

module _ (A : Type 0) (f : Concept-F A → A) where
  pub fold-Top : fold-Concept A f Top ≡ f Concept-F.Top
  unfolding roll-Concept roll
  fold-Top = ap (fold-Concept A f) rolls-Top ∙ fold-roll-Concept A f Concept-F.Top

  pub fold-Bottom : fold-Concept A f Bottom ≡ f Concept-F.Bottom
  unfolding roll-Concept roll
  fold-Bottom = ap (fold-Concept A f) rolls-Bottom ∙ fold-roll-Concept A f Concept-F.Bottom

  pub fold-Name : (a : ℕ) → fold-Concept A f (Name a) ≡ f (Concept-F.Name a)
  unfolding roll-Concept roll
  fold-Name a = ap (fold-Concept A f) (rolls-Name a) ∙ fold-roll-Concept A f (Concept-F.Name a)

  pub fold-Not : (c : Concept) → fold-Concept A f (Not c) ≡ f (Concept-F.Not (fold-Concept A f c))
  unfolding roll-Concept roll
  fold-Not c = ap (fold-Concept A f) (rolls-Not c) ∙ fold-roll-Concept A f (Concept-F.Not c)

  pub fold-And : (c d : Concept) → fold-Concept A f (And c d) ≡ f (Concept-F.And (fold-Concept A f c) (fold-Concept A f d))
  unfolding roll-Concept roll
  fold-And c d = ap (fold-Concept A f) (rolls-And c d) ∙ fold-roll-Concept A f (Concept-F.And c d)

  pub fold-Or : (c d : Concept) → fold-Concept A f (Or c d) ≡ f (Concept-F.Or (fold-Concept A f c) (fold-Concept A f d))
  unfolding roll-Concept roll
  fold-Or c d = ap (fold-Concept A f) (rolls-Or c d) ∙ fold-roll-Concept A f (Concept-F.Or c d)

  pub fold-HasSome : (r : ℕ) (c : Concept) → fold-Concept A f (HasSome r c) ≡ f (Concept-F.HasSome r (fold-Concept A f c))
  unfolding roll-Concept roll
  fold-HasSome r c = ap (fold-Concept A f) (rolls-HasSome r c) ∙ fold-roll-Concept A f (Concept-F.HasSome r c)

  pub fold-HasAll : (r : ℕ) (c : Concept) → fold-Concept A f (HasAll r c) ≡ f (Concept-F.HasAll r (fold-Concept A f c))
  unfolding roll-Concept roll
  fold-HasAll r c = ap (fold-Concept A f) (rolls-HasAll r c) ∙ fold-roll-Concept A f (Concept-F.HasAll r c)
