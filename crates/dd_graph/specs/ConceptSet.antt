-- Two proofs that two concepts are equal are one, since a test decides it.
use mathlib.Core.HLevel.{hedberg}
use Rattle.std.proofs.Common.{◌≡◌, ◌∙◌, sym, Bool, true, false, refl, ℕ, ◌<◌}
use native.Mathlib.Bridge.{le_prop}
use Rattle.std.proofs.lemmas.Bool.{false≢true}
use Rattle.dd_concept.specs.declared.concept.Concept.{Concept}
use Rattle.dd_concept.specs.Same.{is_same}
use Rattle.dd_rules.specs.Compiled.{Closure, AreProps}
use Rattle.dd_rules.specs.declared.props.Props.{Props}
use Rattle.dd_concept.proofs.SameIs.{is_same-is, is-is_same}

by_test : (c d : Concept) (b : Bool) → is_same c d ≡ b → Dec (c ≡ d)
by_test c d true e = yes (is_same-is c d e)
by_test c d false e = no (λ p. false≢true (sym e ∙ is-is_same c d p))

pub concept_set : IsSet Concept
concept_set = hedberg (λ c d. by_test c d (is_same c d) refl)

-- less than has one proof at most
pub less_prop : (m n : ℕ) → IsProp (m < n)
less_prop m n = hlevel le_prop

-- one pair of proofs that propagations are fit
pub fit_prop : (closure : Closure) (props : Props) → IsProp (AreProps closure props)
fit_prop closure props = hlevel (concept_set, less_prop)
