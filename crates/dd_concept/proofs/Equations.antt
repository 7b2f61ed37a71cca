-- The normal forms, form by form, and the depth of two parts.
use Rattle.std.proofs.Common.{◌≡◌, ℕ, ◌+◌, max, ap}
use Rattle.dd_concept.specs.declared.concept.Concept.{Concept}
use Rattle.dd_concept.specs.declared.concept.Concept.TheVariants.{Top, Bottom, Name, Not, And, Or, HasSome, HasAll}
use Rattle.dd_concept.specs.Counts.{depth_of, depth_at}
use Rattle.dd_concept.specs.Normal.{normal_at, nnf_of, nnf_not_of}
use Rattle.dd_concept.proofs.Folds.{fold-Top, fold-Bottom, fold-Name, fold-Not, fold-And, fold-Or, fold-HasSome, fold-HasAll}

pub depth_of-And : (c d : Concept) → depth_of (And c d) ≡ max (depth_of c) (depth_of d) + 1
depth_of-And c d = fold-And ℕ depth_at c d

pub depth_of-Or : (c d : Concept) → depth_of (Or c d) ≡ max (depth_of c) (depth_of d) + 1
depth_of-Or c d = fold-Or ℕ depth_at c d

pub nnf_of-Top : nnf_of Top ≡ Top
nnf_of-Top = ap (λ p. p.0) (fold-Top (Concept × Concept) normal_at)

pub nnf_of-Bottom : nnf_of Bottom ≡ Bottom
nnf_of-Bottom = ap (λ p. p.0) (fold-Bottom (Concept × Concept) normal_at)

pub nnf_of-Name : (a : ℕ) → nnf_of (Name a) ≡ Name a
nnf_of-Name a = ap (λ p. p.0) (fold-Name (Concept × Concept) normal_at a)

pub nnf_of-Not : (c : Concept) → nnf_of (Not c) ≡ nnf_not_of c
nnf_of-Not c = ap (λ p. p.0) (fold-Not (Concept × Concept) normal_at c)

pub nnf_of-And : (c d : Concept) → nnf_of (And c d) ≡ And (nnf_of c) (nnf_of d)
nnf_of-And c d = ap (λ p. p.0) (fold-And (Concept × Concept) normal_at c d)

pub nnf_of-Or : (c d : Concept) → nnf_of (Or c d) ≡ Or (nnf_of c) (nnf_of d)
nnf_of-Or c d = ap (λ p. p.0) (fold-Or (Concept × Concept) normal_at c d)

pub nnf_of-HasSome : (r : ℕ) (c : Concept) → nnf_of (HasSome r c) ≡ HasSome r (nnf_of c)
nnf_of-HasSome r c = ap (λ p. p.0) (fold-HasSome (Concept × Concept) normal_at r c)

pub nnf_of-HasAll : (r : ℕ) (c : Concept) → nnf_of (HasAll r c) ≡ HasAll r (nnf_of c)
nnf_of-HasAll r c = ap (λ p. p.0) (fold-HasAll (Concept × Concept) normal_at r c)

pub nnf_not_of-Top : nnf_not_of Top ≡ Bottom
nnf_not_of-Top = ap (λ p. p.1) (fold-Top (Concept × Concept) normal_at)

pub nnf_not_of-Bottom : nnf_not_of Bottom ≡ Top
nnf_not_of-Bottom = ap (λ p. p.1) (fold-Bottom (Concept × Concept) normal_at)

pub nnf_not_of-Name : (a : ℕ) → nnf_not_of (Name a) ≡ Not (Name a)
nnf_not_of-Name a = ap (λ p. p.1) (fold-Name (Concept × Concept) normal_at a)

pub nnf_not_of-Not : (c : Concept) → nnf_not_of (Not c) ≡ nnf_of c
nnf_not_of-Not c = ap (λ p. p.1) (fold-Not (Concept × Concept) normal_at c)

pub nnf_not_of-And : (c d : Concept) → nnf_not_of (And c d) ≡ Or (nnf_not_of c) (nnf_not_of d)
nnf_not_of-And c d = ap (λ p. p.1) (fold-And (Concept × Concept) normal_at c d)

pub nnf_not_of-Or : (c d : Concept) → nnf_not_of (Or c d) ≡ And (nnf_not_of c) (nnf_not_of d)
nnf_not_of-Or c d = ap (λ p. p.1) (fold-Or (Concept × Concept) normal_at c d)

pub nnf_not_of-HasSome : (r : ℕ) (c : Concept) → nnf_not_of (HasSome r c) ≡ HasAll r (nnf_not_of c)
nnf_not_of-HasSome r c = ap (λ p. p.1) (fold-HasSome (Concept × Concept) normal_at r c)

pub nnf_not_of-HasAll : (r : ℕ) (c : Concept) → nnf_not_of (HasAll r c) ≡ HasSome r (nnf_not_of c)
nnf_not_of-HasAll r c = ap (λ p. p.1) (fold-HasAll (Concept × Concept) normal_at r c)
