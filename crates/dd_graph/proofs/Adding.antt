-- What a step adds that a label calls for has a number below the width.
use Rattle.std.proofs.Common.{◌≡◌, ◌∙◌, ◌<◌, ℕ, zero, suc, Bool, sym, ap, subst, true, List, [], ◌∷◌, All, map, length, slice_get, Some, refl}
use Rattle.std.proofs.lemmas.List.Elements.{All-head, All-tail}
use Rattle.std.proofs.lemmas.Option.{slice_get_within}
use Rattle.dd_concept.specs.Closed.{IsClosedFor}
use Rattle.dd_concept.specs.declared.concept.Concept.{Concept}
use Rattle.dd_concept.specs.Same.{has}
use Rattle.dd_concept.specs.Steps as steps
use Rattle.dd_rules.specs.Closure.{are_distinct}
use Rattle.dd_rules.specs.Compiled.{Closure, AreProps, props_of, rules_in}
use Rattle.dd_rules.specs.Numbers.{additions, calls_for, concepts_at, place_of}
use Rattle.dd_rules.specs.declared.props.Props.{Props}
use Rattle.dd_rules.specs.declared.shape.Step.{Step}
use Rattle.dd_rules.proofs.Lifting.{steps-lift}
use Rattle.dd_rules.proofs.Numbered.{get-place}
use Rattle.dd_graph.proofs.Known.{fit-closed}
use Rattle.dd_graph.proofs.Lists.{same_Some, none_is_not}

places-within : (concepts cs : List Concept) (k n : ℕ) → All (λ c. has concepts c ≡ true) cs → slice_get (map (place_of concepts) cs) k ≡ Some n → n < length concepts
places-within concepts [] k n inside at = absurd (none_is_not n at)
places-within concepts (c ∷ cs) zero n inside at =
    let h = All-head (λ c. has concepts c ≡ true) c cs inside in
    subst (λ m. m < length concepts) (same_Some (place_of concepts c) n at) (slice_get_within concepts (place_of concepts c) c (get-place concepts c h))
places-within concepts (c ∷ cs) (suc k) n inside at = places-within concepts cs k n (All-tail (λ c. has concepts c ≡ true) c cs inside) at

pub addition-within : (closure : Closure) (props : Props) (p : ℕ → Bool) (s : Step) (k n : ℕ) → are_distinct closure.concepts ≡ true → IsClosedFor closure.axioms [] closure.concepts
    → AreProps closure props → calls_for (rules_in closure props) p s ≡ true → slice_get (additions (rules_in closure props) s) k ≡ Some n → n < length closure.concepts
addition-within closure props p s k n distinct closed fit calls at =
    let lifts = steps-lift closure.concepts closure.axioms (props_of closure.concepts props) distinct (fit-closed closure props fit closed) p s calls in
    places-within closure.concepts (steps.additions (concepts_at closure.concepts p) lifts.choice) k n lifts.inside (ap (λ ns. slice_get ns k) (sym lifts.adds) ∙ at)
