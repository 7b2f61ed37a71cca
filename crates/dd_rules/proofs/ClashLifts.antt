-- A clash by numbers is one of concepts.
use Rattle.std.proofs.Common.{◌≡◌, ◌∙◌, ◌&&◌, ◌==◌, sym, refl, subst, ℕ, Bool, true, false, List, [], slice_get, Option, None, Some}
use Rattle.std.specs.Prelude.{IfSome}
use Rattle.std.proofs.lemmas.Bool.{false≢true, and_parts, eqb-true}
use Rattle.dd_concept.specs.declared.concept.Concept.{Concept}
use Rattle.dd_concept.specs.declared.concept.Concept.TheOpen.{Concept-F}
use Rattle.dd_concept.specs.declared.concept.Concept.TheViews.{out-Concept}
use Rattle.dd_concept.specs.declared.concept.Concept.TheVariants.{Bottom, Name}
use Rattle.dd_concept.specs.Closed.{IsClosedFor}
use Rattle.dd_concept.specs.Same.{has}
use Rattle.dd_concept.proofs.SameIs.{of_form}
use Rattle.dd_rules.specs.declared.clash.Clash.{Clash}
use Rattle.dd_rules.specs.declared.clash.Clash.TheVariants as way_out
use Rattle.dd_rules.specs.Closure.{are_distinct}
use Rattle.dd_rules.specs.Forced.{is_bottom, is_clash, is_name}
use Rattle.dd_rules.specs.Labels.{IsClashOf}
use Rattle.dd_rules.specs.Numbers.{any_at, concepts_at, is_not, not_shape, rules_of, shape_form}
use Rattle.dd_rules.proofs.Lifting.{each-shape, in-get, not-up}
use Rattle.dd_rules.proofs.Numbered.{any_at-some}

no_bottom : (z : Concept-F Concept) → is_bottom (not_shape z) ≡ false
no_bottom (Concept-F.Name a) = refl
no_bottom _ = refl

no_name : (a : ℕ) (z : Concept-F Concept) → is_name a (not_shape z) ≡ false
no_name a (Concept-F.Name b) = refl
no_name a _ = refl

module _ (concepts : List Concept) (distinct : are_distinct concepts ≡ true) (closed : IsClosedFor [] [] concepts) (p : ℕ → Bool) where
  bottom-form : (n : ℕ) (y : Concept-F Concept) → slice_get concepts n ≡ Some (of_form y) → (p n && is_bottom (shape_form concepts y)) ≡ true → has (concepts_at concepts p) Bottom ≡ true
  bottom-form n Concept-F.Bottom e t = in-get concepts [] [] distinct closed p n Bottom e (and_parts (p n) true t).0
  bottom-form n (Concept-F.Not c) e t = absurd (false≢true (sym (no_bottom (out-Concept c)) ∙ (and_parts (p n) (is_bottom (not_shape (out-Concept c))) t).1))
  bottom-form n y e t = absurd (false≢true (and_parts (p n) false t).1)

  name-form : (a n : ℕ) (y : Concept-F Concept) → slice_get concepts n ≡ Some (of_form y) → (p n && is_name a (shape_form concepts y)) ≡ true → has (concepts_at concepts p) (Name a) ≡ true
  name-form a n (Concept-F.Name b) e t =
      let both = and_parts (p n) (a == b) t in
      subst (λ x. has (concepts_at concepts p) (Name x) ≡ true) (sym (eqb-true a b both.1)) (in-get concepts [] [] distinct closed p n (Name b) e both.0)
  name-form a n (Concept-F.Not c) e t = absurd (false≢true (sym (no_name a (out-Concept c)) ∙ (and_parts (p n) (is_name a (not_shape (out-Concept c))) t).1))
  name-form a n y e t = absurd (false≢true (and_parts (p n) false t).1)

  pub clash-seen : (o : Option Clash) → IfSome o (λ c. is_clash (rules_of concepts [] []) p c ≡ true) → IfSome o (IsClashOf (concepts_at concepts p))
  clash-seen None h = h
  clash-seen (Some way_out.Bottom) h =
      let found = any_at-some (λ n s. p n && is_bottom s) (rules_of concepts [] []).shapes h in
      each-shape concepts [] [] distinct closed p (λ n s. (p n && is_bottom s) ≡ true → has (concepts_at concepts p) Bottom ≡ true) bottom-form found.0 found.1 found.2 found.3
  clash-seen (Some (way_out.Name a)) h =
      let both = and_parts (any_at (λ n s. p n && is_name a s) (rules_of concepts [] []).shapes) (any_at (λ n s. p n && is_not a s) (rules_of concepts [] []).shapes) h in
      let found = any_at-some (λ n s. p n && is_name a s) (rules_of concepts [] []).shapes both.0 in (
        each-shape concepts [] [] distinct closed p (λ n s. (p n && is_name a s) ≡ true → has (concepts_at concepts p) (Name a) ≡ true) (name-form a) found.0 found.1 found.2 found.3,
        not-up concepts [] [] distinct closed p a both.1,
      )
