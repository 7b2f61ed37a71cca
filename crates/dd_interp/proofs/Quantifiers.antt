-- The quantifiers along a role: the complement of one is the other over complements, and each reads its concept at the ends alone.
use Rattle.std.proofs.Common.{◌≡◌, ◌∙◌, ℕ, Bool, true, false, not, ◌&&◌, ◌||◌, nat_eq, List, [], ◌∷◌, ap, refl, sym}
use Rattle.dd_interp.specs.Meaning.{some_along, all_along}

-- De Morgan's laws
pub not-and : (a b : Bool) → not (a && b) ≡ (not a || not b)
not-and true b = refl
not-and false b = refl

pub not-or : (a b : Bool) → not (a || b) ≡ (not a && not b)
not-or true b = refl
not-or false b = refl

pub not-not : (a : Bool) → not (not a) ≡ a
not-not true = refl
not-not false = refl

module _ (r : ℕ) (c : ℕ → Bool) (x : ℕ) where
  pub not-some_along : (roles : List (ℕ × ℕ × ℕ)) → not (some_along roles r c x) ≡ all_along roles r (λ y. not (c y)) x
  not-some_along [] = refl
  not-some_along (t ∷ ts) = not-or ((nat_eq t.0 r && nat_eq t.1 x) && c t.2) (some_along ts r c x)
      ∙ ap (λ v. v && not (some_along ts r c x)) (not-and (nat_eq t.0 r && nat_eq t.1 x) (c t.2))
      ∙ ap (λ v. (not (nat_eq t.0 r && nat_eq t.1 x) || not (c t.2)) && v) (not-some_along ts)

  pub not-all_along : (roles : List (ℕ × ℕ × ℕ)) → not (all_along roles r c x) ≡ some_along roles r (λ y. not (c y)) x
  not-all_along [] = refl
  not-all_along (t ∷ ts) = not-and (not (nat_eq t.0 r && nat_eq t.1 x) || c t.2) (all_along ts r c x)
      ∙ ap (λ v. v || not (all_along ts r c x)) (not-or (not (nat_eq t.0 r && nat_eq t.1 x)) (c t.2)
      ∙ ap (λ v. v && not (c t.2)) (not-not (nat_eq t.0 r && nat_eq t.1 x)))
      ∙ ap (λ v. ((nat_eq t.0 r && nat_eq t.1 x) && not (c t.2)) || v) (not-all_along ts)

-- two tests that agree everywhere
module _ (r : ℕ) (c d : ℕ → Bool) (x : ℕ) (h : (y : ℕ) → c y ≡ d y) where
  pub some_along-same : (roles : List (ℕ × ℕ × ℕ)) → some_along roles r c x ≡ some_along roles r d x
  some_along-same [] = refl
  some_along-same (t ∷ ts) = ap (λ v. ((nat_eq t.0 r && nat_eq t.1 x) && v) || some_along ts r c x) (h t.2)
      ∙ ap (λ v. ((nat_eq t.0 r && nat_eq t.1 x) && d t.2) || v) (some_along-same ts)

  pub all_along-same : (roles : List (ℕ × ℕ × ℕ)) → all_along roles r c x ≡ all_along roles r d x
  all_along-same [] = refl
  all_along-same (t ∷ ts) = ap (λ v. (not (nat_eq t.0 r && nat_eq t.1 x) || v) && all_along ts r c x) (h t.2)
      ∙ ap (λ v. (not (nat_eq t.0 r && nat_eq t.1 x) || d t.2) && v) (all_along-same ts)

-- all is no counterexample
pub all_along-not : (r : ℕ) (c : ℕ → Bool) (x : ℕ) (roles : List (ℕ × ℕ × ℕ)) → all_along roles r c x ≡ not (some_along roles r (λ y. not (c y)) x)
all_along-not r c x roles = all_along-same r c (λ y. not (not (c y))) x (λ y. sym (not-not (c y))) roles
    ∙ sym (not-some_along r (λ y. not (c y)) x roles)
