-- The closure and the rules of labels, at small examples.
use Rattle.std.proofs.Common.{◌≡◌, ◌∙◌, refl, ℕ, Bool, true, false, List, [], ◌∷◌, Some, ◌==◌, ◌||◌, flat_map, ap}
use Rattle.dd_concept.specs.declared.concept.Axiom.{Axiom}
use Rattle.dd_concept.specs.declared.concept.Concept.{Concept}
use Rattle.dd_concept.specs.declared.concept.Concept.TheViews.{outs-Top, outs-Bottom, outs-Name, outs-Not, outs-And, outs-Or, outs-HasSome, outs-HasAll}
use Rattle.dd_concept.specs.declared.concept.Concept.TheVariants.{Top, Bottom, Name, Not, And, Or, HasSome, HasAll}
use Rattle.dd_concept.proofs.SameForms.{same-Top, same-Bottom, same-Name, same-Not, same-And, same-Or, same-HasSome, same-HasAll}
use Rattle.dd_concept.proofs.JoinedForms.{joined-Top, joined-Bottom, joined-Name, joined-Not, joined-And, joined-Or, joined-HasSome, joined-HasAll}
use Rattle.dd_concept.proofs.Equations.{nnf_of-Name, nnf_not_of-Name}
use Rattle.dd_concept.specs.Parts.{parts_in_order}
use Rattle.dd_rules.specs.Closure.{closure_of, sources_of, are_distinct, each_once}
use Rattle.dd_rules.specs.Numbers.{Rules, rules_of, is_saturated, has_clash, is_complete, calls_for, additions}
use Rattle.dd_rules.specs.declared.shape.Shape.TheVariants as shape
use Rattle.dd_rules.specs.declared.shape.Step.TheVariants as way
use Rattle.dd_rules.proofs.Once.{once-distinct}
use Rattle.dd_rules.proofs.Parts.{parts-Top, parts-Bottom, parts-Name, parts-Not, parts-And, parts-Or, parts-HasSome, parts-HasAll}

pub ruleset forms = (same-Top, same-Bottom, same-Name, same-Not, same-And, same-Or, same-HasSome, same-HasAll, outs-Top, outs-Bottom, outs-Name, outs-Not, outs-And, outs-Or, outs-HasSome, outs-HasAll, joined-Top, joined-Bottom, joined-Name, joined-Not, joined-And, joined-Or, joined-HasSome, joined-HasAll, parts-Top, parts-Bottom, parts-Name, parts-Not, parts-And, parts-Or, parts-HasSome, parts-HasAll)

abbrev a : Concept
a = Name 0

abbrev b : Concept
b = Name 1

abbrev c : Concept
c = Name 2

abbrev chain : List Axiom
chain = record { left = a; right = b } ∷ record { left = b; right = c } ∷ []

abbrev chain_concepts : List Concept
chain_concepts = Not a ∷ b ∷ Not b ∷ c ∷ a ∷ Not c ∷ []

chain_distinct : are_distinct chain_concepts ≡ true
chain_distinct = simp forms refl

chain_sources : flat_map parts_in_order (sources_of chain (a ∷ Not c ∷ [])) ≡ chain_concepts
chain_sources = simp (nnf_of-Name, nnf_not_of-Name, forms) refl

chain_closure : closure_of chain (a ∷ Not c ∷ []) ≡ chain_concepts
chain_closure = ap each_once chain_sources ∙ once-distinct chain_concepts chain_distinct

-- a goal label by its numbers, and Sat of it: the axioms are rules of numbers
abbrev chain_rules : Rules
chain_rules = rules_of chain_concepts chain []

chain_shapes : chain_rules.shapes ≡ (shape.Not 0 ∷ shape.Name 1 ∷ shape.Not 1 ∷ shape.Name 2 ∷ shape.Name 0 ∷ shape.Not 2 ∷ [])
chain_shapes = simp forms refl

chain_axioms : chain_rules.axioms ≡ (record { left = 0; right = 1; joined = Some (Some 4 ∷ []) } ∷ record { left = 2; right = 3; joined = Some (Some 1 ∷ []) } ∷ [])
chain_axioms = simp (nnf_of-Name, nnf_not_of-Name, forms) refl

-- the same rules, written out
abbrev chain_numbers : Rules
chain_numbers = record {
  shapes = shape.Not 0 ∷ shape.Name 1 ∷ shape.Not 1 ∷ shape.Name 2 ∷ shape.Name 0 ∷ shape.Not 2 ∷ [];
  axioms = record { left = 0; right = 1; joined = Some (Some 4 ∷ []) } ∷ record { left = 2; right = 3; joined = Some (Some 1 ∷ []) } ∷ [];
  props = [];
}

-- the goal's label with a and (not c), and Sat of it
abbrev goal_numbers : ℕ → Bool
goal_numbers n = (n == 4) || (n == 5)

abbrev sat_numbers : ℕ → Bool
sat_numbers n = (n == 4) || ((n == 5) || ((n == 1) || (n == 3)))

goal_not_saturated : is_saturated chain_numbers goal_numbers ≡ false
goal_not_saturated = refl

goal_clear : has_clash chain_numbers goal_numbers ≡ false
goal_clear = refl

sat_saturated : is_saturated chain_numbers sat_numbers ≡ true
sat_saturated = refl

sat_clashes : has_clash chain_numbers sat_numbers ≡ true
sat_clashes = refl

-- ---- a case split: an element of a is one of b or of c. The closure is (not a), (or b c), b, c, a, (not b), (not c)

abbrev split_numbers : Rules
split_numbers = record {
  shapes = shape.Not 0 ∷ shape.Or 2 3 ∷ shape.Name 1 ∷ shape.Name 2 ∷ shape.Name 0 ∷ shape.Not 1 ∷ shape.Not 2 ∷ [];
  axioms = record { left = 0; right = 1; joined = Some (Some 4 ∷ []) } ∷ [];
  props = [];
}

abbrev outside_numbers : ℕ → Bool
outside_numbers n = (n == 4) || ((n == 1) || ((n == 5) || (n == 6)))

outside_calls : calls_for split_numbers outside_numbers (way.Or 1) ≡ true
outside_calls = refl

outside_adds : additions split_numbers (way.Or 1) ≡ (2 ∷ 3 ∷ [])
outside_adds = refl

outside_not_complete : is_complete split_numbers outside_numbers ≡ false
outside_not_complete = refl

inside_complete : is_complete split_numbers (λ n. (n == 4) || ((n == 1) || (n == 2))) ≡ true
inside_complete = refl

-- ---- a propagation onto (and a b) into c or d: a cut before the bridge. The closure is (and a b), a, b, (or (not a) (not b)), (not a), (not b), c, d

abbrev bridge_numbers : Rules
bridge_numbers = record {
  shapes = shape.And 1 2 ∷ shape.Name 0 ∷ shape.Name 1 ∷ shape.Or 4 5 ∷ shape.Not 0 ∷ shape.Not 1 ∷ shape.Name 2 ∷ shape.Name 3 ∷ [];
  axioms = [];
  props = record { onto = 0; not_onto = 3; into = 6 ∷ 7 ∷ []; joined = Some (Some 1 ∷ Some 2 ∷ []) } ∷ [];
}

abbrev with_both : ℕ → Bool
with_both n = (n == 1) || (n == 2)

cut_called : calls_for bridge_numbers with_both (way.Cut 0) ≡ true
cut_called = refl

bridge_not_yet : calls_for bridge_numbers with_both (way.Bridge 0) ≡ false
bridge_not_yet = refl

cut_adds : additions bridge_numbers (way.Cut 0) ≡ (0 ∷ 3 ∷ [])
cut_adds = refl

bridge_called : calls_for bridge_numbers (λ n. (n == 0) || with_both n) (way.Bridge 0) ≡ true
bridge_called = refl

-- with one of the names alone nothing is called for
one_name : is_complete bridge_numbers (λ n. n == 1) ≡ true
one_name = refl

parts_of_or : parts_in_order (Or (And a b) (HasSome 0 a)) ≡ (Or (And a b) (HasSome 0 a) ∷ And a b ∷ a ∷ b ∷ HasSome 0 a ∷ a ∷ [])
parts_of_or = simp forms refl
