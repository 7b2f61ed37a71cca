-- What each form of concept means, by what its parts mean.
use Rattle.std.proofs.Common.{◌≡◌, ℕ, Bool, true, false, not, ◌&&◌, ◌||◌, ap}
use Rattle.dd_concept.specs.declared.concept.Concept.{Concept}
use Rattle.dd_concept.specs.declared.concept.Concept.TheVariants.{Top, Bottom, Name, Not, And, Or, HasSome, HasAll}
use Rattle.dd_concept.proofs.Folds.{fold-Top, fold-Bottom, fold-Name, fold-Not, fold-And, fold-Or, fold-HasSome, fold-HasAll}
use Rattle.dd_interp.specs.declared.interp.Interp.{Interp}
use Rattle.dd_interp.specs.Meaning.{in_name, some_along, all_along, meaning_at, meaning}

module _ (i : Interp) where
  pub meaning-Top : (x : ℕ) → meaning i Top x ≡ true
  meaning-Top x = ap (λ m. m x) (fold-Top (ℕ → Bool) (meaning_at i.names i.roles))

  pub meaning-Bottom : (x : ℕ) → meaning i Bottom x ≡ false
  meaning-Bottom x = ap (λ m. m x) (fold-Bottom (ℕ → Bool) (meaning_at i.names i.roles))

  pub meaning-Name : (a : ℕ) (x : ℕ) → meaning i (Name a) x ≡ in_name i.names a x
  meaning-Name a x = ap (λ m. m x) (fold-Name (ℕ → Bool) (meaning_at i.names i.roles) a)

  pub meaning-Not : (c : Concept) (x : ℕ) → meaning i (Not c) x ≡ not (meaning i c x)
  meaning-Not c x = ap (λ m. m x) (fold-Not (ℕ → Bool) (meaning_at i.names i.roles) c)

  pub meaning-And : (c d : Concept) (x : ℕ) → meaning i (And c d) x ≡ (meaning i c x && meaning i d x)
  meaning-And c d x = ap (λ m. m x) (fold-And (ℕ → Bool) (meaning_at i.names i.roles) c d)

  pub meaning-Or : (c d : Concept) (x : ℕ) → meaning i (Or c d) x ≡ (meaning i c x || meaning i d x)
  meaning-Or c d x = ap (λ m. m x) (fold-Or (ℕ → Bool) (meaning_at i.names i.roles) c d)

  pub meaning-HasSome : (r : ℕ) (c : Concept) (x : ℕ) → meaning i (HasSome r c) x ≡ some_along i.roles r (meaning i c) x
  meaning-HasSome r c x = ap (λ m. m x) (fold-HasSome (ℕ → Bool) (meaning_at i.names i.roles) r c)

  pub meaning-HasAll : (r : ℕ) (c : Concept) (x : ℕ) → meaning i (HasAll r c) x ≡ all_along i.roles r (meaning i c) x
  meaning-HasAll r c x = ap (λ m. m x) (fold-HasAll (ℕ → Bool) (meaning_at i.names i.roles) r c)
