-- A closure has the targets of propagations that are fit for it.
use Rattle.std.proofs.Common.{◌≡◌, ◌∙◌, ◌<◌, ℕ, sym, ap, true, List, [], ◌∷◌, All, length}
use Rattle.std.proofs.lemmas.List.Elements.{All-map, All-nil, All-cons, All-head, All-tail}
use Rattle.std.proofs.lemmas.Option.{get_or_from_slice_get}
use Rattle.dd_concept.specs.Closed.{HasTargets, IsClosedFor}
use Rattle.dd_concept.specs.declared.concept.Concept.{Concept}
use Rattle.dd_concept.specs.declared.concept.Concept.TheVariants.{Top}
use Rattle.dd_concept.specs.Same.{has}
use Rattle.dd_rules.specs.Compiled.{Closure, AreProps, IsProp, concept_at, propagation_of, props_of}
use Rattle.dd_rules.specs.declared.props.Props.{Props}
use Rattle.dd_rules.proofs.Numbered.{has-get}
use Rattle.dd_graph.proofs.Lists.{place_at}

-- what holds of each element may be weaker
weaken : {X : Type 0} (P Q : X → Type 0) → ((x : X) → P x → Q x) → (xs : List X) → All P xs → All Q xs
weaken P Q f [] h = All-nil Q
weaken P Q f (x ∷ xs) h = All-cons Q x xs (f x (All-head P x xs h)) (weaken P Q f xs (All-tail P x xs h))

-- the concept with a number is in the list
has-at : (concepts : List Concept) (n : ℕ) → n < length concepts → has concepts (concept_at concepts n) ≡ true
has-at concepts n lt =
    let found = place_at concepts n lt in
    ap (has concepts) (get_or_from_slice_get concepts n found.0 Top found.1) ∙ has-get concepts n found.0 found.1

targets : (concepts : List Concept) (p : ℕ × ℕ × List ℕ) → IsProp concepts p → HasTargets concepts (propagation_of concepts p)
targets concepts p h = record {
  onto = has-at concepts p.0 h.onto;
  not_onto = ap (has concepts) (sym h.complement) ∙ has-at concepts p.1 h.not_onto;
  into = All-map (λ c. has concepts c ≡ true) (concept_at concepts) p.2 (weaken (λ n. n < length concepts) (λ n. has concepts (concept_at concepts n) ≡ true) (has-at concepts) p.2 h.into);
}

pub fit-closed : (closure : Closure) (props : Props) → AreProps closure props → IsClosedFor closure.axioms [] closure.concepts
    → IsClosedFor closure.axioms (props_of closure.concepts props) closure.concepts
fit-closed closure props fit closed = record {
  parts = closed.parts;
  sides = closed.sides;
  targets = All-map (HasTargets closure.concepts) (propagation_of closure.concepts) props.list (weaken (IsProp closure.concepts) (λ p. HasTargets closure.concepts (propagation_of closure.concepts p)) (targets closure.concepts) props.list fit);
}
