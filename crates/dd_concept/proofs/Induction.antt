-- Induction over concepts: what each variant passes on from its parts holds of every concept.
use Rattle.std.proofs.Common.{ℕ, subst}
use denote.Hole.Carrier.{roll}
use Rattle.dd_concept.specs.declared.concept.Concept.{Concept}
use Rattle.dd_concept.specs.declared.concept.Concept.TheOpen.{Concept-F}
use Rattle.dd_concept.specs.declared.concept.Concept.TheViews.{roll-Concept}
use Rattle.dd_concept.specs.declared.concept.Concept.TheFolds.{ind-Concept, map-Concept}
use Rattle.dd_concept.specs.declared.concept.Concept.TheVariants.{Top, Bottom, Name, Not, And, Or, HasSome, HasAll, rolls-Top, rolls-Bottom, rolls-Name, rolls-Not, rolls-And, rolls-Or, rolls-HasSome, rolls-HasAll}

-- one case a variant
pub record Cases (P : Concept → Type 0) : Type 0 where
  pub top : P Top
  pub bottom : P Bottom
  pub name : (a : ℕ) → P (Name a)
  pub not : (c : Concept) → P c → P (Not c)
  pub and : (c d : Concept) → P c → P d → P (And c d)
  pub or : (c d : Concept) → P c → P d → P (Or c d)
  pub has_some : (r : ℕ) (c : Concept) → P c → P (HasSome r c)
  pub has_all : (r : ℕ) (c : Concept) → P c → P (HasAll r c)

-- one layer of a concept, by its case
layer : (P : Concept → Type 0) → Cases P → (y : Concept-F ((c : Concept) × P c))
    → P (roll-Concept (map-Concept ((c : Concept) × P c) Concept (λ e. e.0) y))
unfolding roll-Concept roll
layer P k Concept-F.Top = subst P rolls-Top k.top
layer P k Concept-F.Bottom = subst P rolls-Bottom k.bottom
layer P k (Concept-F.Name a) = subst P (rolls-Name a) (k.name a)
layer P k (Concept-F.Not c) = subst P (rolls-Not c.0) (k.not c.0 c.1)
layer P k (Concept-F.And c d) = subst P (rolls-And c.0 d.0) (k.and c.0 d.0 c.1 d.1)
layer P k (Concept-F.Or c d) = subst P (rolls-Or c.0 d.0) (k.or c.0 d.0 c.1 d.1)
layer P k (Concept-F.HasSome r c) = subst P (rolls-HasSome r c.0) (k.has_some r c.0 c.1)
layer P k (Concept-F.HasAll r c) = subst P (rolls-HasAll r c.0) (k.has_all r c.0 c.1)

pub induct : (P : Concept → Type 0) → Cases P → (c : Concept) → P c
induct P k = ind-Concept P (λ x y is. subst (λ z. P (roll-Concept z)) is (layer P k y))
