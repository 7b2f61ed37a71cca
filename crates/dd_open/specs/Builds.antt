-- For private clauses: a model in the making, element by element.
use Rattle.std.specs.Prelude.{ℕ, ◌≡◌, ◌<◌, ◌++◌, true, List, [], ◌∷◌, All, Contains, length, flat_map, slice_get, Option, Some}
use Rattle.dd_concept.specs.declared.concept.Concept.{Concept}
use Rattle.dd_concept.specs.declared.concept.Concept.TheVariants.{Name, HasSome}
use Rattle.dd_concept.specs.Same.{has as has_concept}
use Rattle.dd_interp.specs.Lean.{IsAsked}
use Rattle.dd_interp.specs.Meaning.{in_name}
use Rattle.dd_rules.specs.declared.shape.Shape.{Shape}
use Rattle.dd_rules.specs.declared.shape.Shape.TheVariants as shape
use Rattle.dd_set.specs.Words.{has}
use Rattle.dd_set.specs.Marked.{AreOnce, with_arrival}
use Rattle.dd_graph.specs.Reached.{IsReachedIn}
use Rattle.dd_graph.specs.View.{GraphView, IsAt, concepts_in, rules_at}
use Rattle.dd_open.specs.Models.{labels_of}
use Rattle.dd_open.specs.Ways.{LeadsTo, IsOpenDone}

-- the pair of a name that the element x has
abbrev pub name_pair : Option Shape → ℕ → List (ℕ × ℕ)
name_pair (Some (shape.Name a)) x = (a, x) ∷ []
name_pair _ x = []

-- the pairs of the names among these numbers
abbrev pub name_pairs : List Shape → List ℕ → ℕ → List (ℕ × ℕ)
name_pairs shapes ns x = flat_map (λ n. name_pair (slice_get shapes n) x) ns

-- an element along the role from x has the concept in its label
pub record IsFound (labels : List (List Concept)) (roles : List (ℕ × ℕ × ℕ)) (r x : ℕ) (c : Concept) : Type 0 where
  pub to : ℕ
  pub label : List Concept
  pub pair : Contains roles (r, x, to)
  pub is_label : slice_get labels to ≡ Some label
  pub has_it : has_concept label c ≡ true

-- the second list goes on where the first one ends
abbrev pub GoesOn : List ℕ → List ℕ → Type 0
GoesOn old new = (k q : ℕ) → slice_get old k ≡ Some q → slice_get new k ≡ Some q

-- each element so far is a complete open label that is reached from the goal
pub record AreElements (v : GraphView) (goal : ℕ) (elements : List ℕ) : Type 0 where
  pub once : AreOnce (length v.labels) elements
  pub done : (k q : ℕ) → slice_get elements k ≡ Some q → IsOpenDone v q
  pub reached : (k q : ℕ) (g l : List ℕ) → slice_get elements k ≡ Some q → IsAt v goal g → IsAt v q l → IsReachedIn (rules_at v) (has g) (has l)

-- what is asked of the first n elements is there
pub record Builds (v : GraphView) (goal : ℕ) (elements : List ℕ) (names : List (ℕ × ℕ)) (roles : List (ℕ × ℕ × ℕ)) (n : ℕ) : Type 0 where
  pub each : AreElements v goal elements
  pub names_below : All (λ p. p.1 < n) names
  pub names_right : (k q : ℕ) (l : List ℕ) → k < n → slice_get elements k ≡ Some q → IsAt v q l → (a : ℕ) → in_name names a k ≡ has_concept (concepts_in v l) (Name a)
  pub roles_right : All (IsAsked (labels_of v elements)) roles
  pub somes : (k q : ℕ) (l : List ℕ) → k < n → slice_get elements k ≡ Some q → IsAt v q l → (r : ℕ) (c : Concept) → has_concept (concepts_in v l) (HasSome r c) ≡ true
      → IsFound (labels_of v elements) roles r k c

-- ---- one pair of an element, and all of them

-- the element x has an element along the role of the restriction with the number p.0, which the label at p.1 leads to
pub record IsMetBy (v : GraphView) (elements : List ℕ) (roles : List (ℕ × ℕ × ℕ)) (x : ℕ) (p : ℕ × ℕ) : Type 0 where
  pub role : ℕ
  pub part : ℕ
  pub to : ℕ
  pub position : ℕ
  pub restricts : slice_get (rules_at v).shapes p.0 ≡ Some (shape.HasSome role part)
  pub pair : Contains roles (role, x, to)
  pub there : slice_get elements to ≡ Some position
  pub leads : LeadsTo v p.1 position

-- a pair is added: the element that it leads to, if it is new, and the pair of the role
pub record AddsRole (v : GraphView) (x : ℕ) (p : ℕ × ℕ) (old new : List ℕ) (roles : List (ℕ × ℕ × ℕ)) (more : List (ℕ × ℕ × ℕ)) : Type 0 where
  pub role : ℕ
  pub part : ℕ
  pub to : ℕ
  pub position : ℕ
  pub restricts : slice_get (rules_at v).shapes p.0 ≡ Some (shape.HasSome role part)
  pub leads : LeadsTo v p.1 position
  pub done : IsOpenDone v position
  pub within : position < length v.labels
  pub grown : new ≡ with_arrival old position
  pub there : slice_get new to ≡ Some position
  pub added : more ≡ roles ++ (role, x, to) ∷ []

-- these are the pairs of the element x
pub record ArePairs (v : GraphView) (elements : List ℕ) (x : ℕ) (pairs : List (ℕ × ℕ)) : Type 0 where
  pub position : ℕ
  pub there : slice_get elements x ≡ Some position
  pub done : IsOpenDone v position
  pub same : pairs ≡ done.pairs

-- the first i pairs of the element x are met, and all that was there before is there
pub record Meets (v : GraphView) (goal x : ℕ) (pairs : List (ℕ × ℕ)) (i : ℕ) (old new : List ℕ) (roles more : List (ℕ × ℕ × ℕ)) : Type 0 where
  pub each : AreElements v goal new
  pub asked : All (IsAsked (labels_of v new)) more
  pub goes_on : GoesOn old new
  pub roles_stay : (t : ℕ × ℕ × ℕ) → Contains roles t → Contains more t
  pub met : (k : ℕ) (p : ℕ × ℕ) → k < i → slice_get pairs k ≡ Some p → IsMetBy v new more x p
