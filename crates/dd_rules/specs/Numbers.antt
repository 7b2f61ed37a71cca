-- Labels as numbers of the closure's concepts: a label is a test of numbers.
use Rattle.std.specs.Prelude.{ℕ, suc, ◌≡◌, ◌==◌, ◌&&◌, ◌||◌, Bool, true, false, not, if◌then◌else◌, List, [], ◌∷◌, map, slice_get, Option, None, Some}
use Rattle.std.specs.List.{list_any, list_all, find}
use Rattle.std.specs.Option.{option_map, option_map_or}
pub use Rattle.dd_concept.specs.AtNumbers.{concepts_at}
use Rattle.dd_concept.specs.declared.concept.Axiom.{Axiom}
use Rattle.dd_concept.specs.declared.concept.Concept.{Concept}
use Rattle.dd_concept.specs.declared.concept.Concept.TheOpen.{Concept-F}
use Rattle.dd_concept.specs.declared.concept.Concept.TheViews.{out-Concept}
use Rattle.dd_concept.specs.declared.concept.Concept.TheVariants.{Name}
use Rattle.dd_concept.specs.Conjunction.{names_joined}
use Rattle.dd_concept.specs.Normal.{nnf_of, nnf_not_of}
use Rattle.dd_concept.specs.Propagation.{Propagation}
use Rattle.dd_concept.specs.Same.{is_same, has}
use Rattle.dd_rules.specs.declared.shape.Shape.{Shape}
use Rattle.dd_rules.specs.declared.shape.Shape.TheVariants as shape
use Rattle.dd_rules.specs.declared.shape.Step.{Step}
use Rattle.dd_rules.specs.declared.shape.Step.TheVariants as way
use Rattle.dd_rules.specs.declared.tables.AxiomNumbers.{AxiomNumbers}

-- does each item pass, or some item, with its place
abbrev pub all_at : {A : Type 0} → (ℕ → A → Bool) → List A → Bool
all_at f [] = true
all_at f (x ∷ xs) = f 0 x && all_at (λ n. f (suc n)) xs

abbrev pub any_at : {A : Type 0} → (ℕ → A → Bool) → List A → Bool
any_at f [] = false
any_at f (x ∷ xs) = f 0 x || any_at (λ n. f (suc n)) xs

-- ---- concepts and their numbers

-- the place of a concept; the length where it is not there
abbrev pub place_of : List Concept → Concept → ℕ
place_of [] c = 0
place_of (d ∷ ds) c = if is_same d c then 0 else suc (place_of ds c)

-- the place of a concept, if it is there
abbrev pub number_of : List Concept → Concept → Option ℕ
number_of concepts c = if has concepts c then Some (place_of concepts c) else None

-- ---- the rules of labels, in numbers

-- a propagation: the numbers of its onto target, of the complement, of its into targets, and those of the names of an onto
-- target that is a conjunction of names
pub record PropNumbers : Type 0 where
  pub onto : ℕ
  pub not_onto : ℕ
  pub into : List ℕ
  pub joined : Option (List (Option ℕ))

pub record Rules : Type 0 where
  pub shapes : List Shape
  pub axioms : List AxiomNumbers
  pub props : List PropNumbers

-- the complement of a name; a Not in normal form stands on nothing else
abbrev pub not_shape : Concept-F Concept → Shape
not_shape (Concept-F.Name a) = shape.Not a
not_shape _ = shape.Top

abbrev pub shape_form : List Concept → Concept-F Concept → Shape
shape_form concepts Concept-F.Top = shape.Top
shape_form concepts Concept-F.Bottom = shape.Bottom
shape_form concepts (Concept-F.Name a) = shape.Name a
shape_form concepts (Concept-F.Not c) = not_shape (out-Concept c)
shape_form concepts (Concept-F.And c d) = shape.And (place_of concepts c) (place_of concepts d)
shape_form concepts (Concept-F.Or c d) = shape.Or (place_of concepts c) (place_of concepts d)
shape_form concepts (Concept-F.HasSome r c) = shape.HasSome r (place_of concepts c)
shape_form concepts (Concept-F.HasAll r c) = shape.HasAll r (place_of concepts c)

abbrev pub shape_of : List Concept → Concept → Shape
shape_of concepts c = shape_form concepts (out-Concept c)

abbrev pub joined_of : List Concept → Concept → Option (List (Option ℕ))
joined_of concepts c = option_map (map (λ a. number_of concepts (Name a))) (names_joined c)

abbrev pub axiom_numbers : List Concept → Axiom → AxiomNumbers
axiom_numbers concepts a = record {
  left = place_of concepts (nnf_not_of a.left);
  right = place_of concepts (nnf_of a.right);
  joined = joined_of concepts a.left;
}

abbrev pub prop_numbers : List Concept → Propagation → PropNumbers
prop_numbers concepts p = record {
  onto = place_of concepts p.onto;
  not_onto = place_of concepts (nnf_not_of p.onto);
  into = map (place_of concepts) p.into;
  joined = joined_of concepts p.onto;
}

abbrev pub rules_of : List Concept → List Axiom → List Propagation → Rules
rules_of concepts axioms props = record {
  shapes = map (shape_of concepts) concepts;
  axioms = map (axiom_numbers concepts) axioms;
  props = map (prop_numbers concepts) props;
}

-- ---- the words on labels, in numbers

-- has the label all of these names: one without a number is in none
abbrev pub has_all : (ℕ → Bool) → List (Option ℕ) → Bool
has_all p names = list_all (λ n. option_map_or p n false) names

abbrev pub has_joined : (ℕ → Bool) → Option (List (Option ℕ)) → Bool
has_joined p joined = option_map_or (has_all p) joined false

abbrev pub lacks_joined : (ℕ → Bool) → Option (List (Option ℕ)) → Bool
lacks_joined p joined = option_map_or (λ names. not (has_all p names)) joined false

-- with a conjunction the label has its parts
abbrev pub keeps_and : (ℕ → Bool) → ℕ → Shape → Bool
keeps_and p n (shape.And a b) = not (p n) || (p a && p b)
keeps_and p n _ = true

abbrev pub keeps_axiom : (ℕ → Bool) → AxiomNumbers → Bool
keeps_axiom p a = not (has_joined p a.joined) || p a.right

abbrev pub is_saturated : Rules → (ℕ → Bool) → Bool
is_saturated r p = all_at (keeps_and p) r.shapes && list_all (keeps_axiom p) r.axioms

-- is this the complement of the name
abbrev pub is_not : ℕ → Shape → Bool
is_not a (shape.Not b) = a == b
is_not a _ = false

abbrev pub clashes_at : Rules → (ℕ → Bool) → ℕ → Shape → Bool
clashes_at r p n shape.Bottom = p n
clashes_at r p n (shape.Name a) = p n && any_at (λ m s. p m && is_not a s) r.shapes
clashes_at r p n _ = false

abbrev pub has_clash : Rules → (ℕ → Bool) → Bool
has_clash r p = any_at (clashes_at r p) r.shapes

-- with a disjunction the label has one of its parts
abbrev pub decides_or : (ℕ → Bool) → ℕ → Shape → Bool
decides_or p n (shape.Or a b) = not (p n) || (p a || p b)
decides_or p n _ = true

abbrev pub decides_axiom : (ℕ → Bool) → AxiomNumbers → Bool
decides_axiom p a = (p a.right || p a.left) || lacks_joined p a.joined

abbrev pub decides_prop : (ℕ → Bool) → PropNumbers → Bool
decides_prop p t = (p t.not_onto || lacks_joined p t.joined) || list_any p t.into

abbrev pub is_complete : Rules → (ℕ → Bool) → Bool
is_complete r p = all_at (decides_or p) r.shapes && (list_all (decides_axiom p) r.axioms && list_all (decides_prop p) r.props)

-- is this a disjunction that the label has and does not decide
abbrev pub is_open_or : (ℕ → Bool) → ℕ → Shape → Bool
is_open_or p n (shape.Or a b) = p n && not (p a || p b)
is_open_or p n _ = false

-- does the label call for the step
abbrev pub calls_for : Rules → (ℕ → Bool) → Step → Bool
calls_for r p (way.And n) = false
calls_for r p (way.Or n) = option_map_or (is_open_or p n) (slice_get r.shapes n) false
calls_for r p (way.Axiom k) = option_map_or (λ a. not (decides_axiom p a)) (slice_get r.axioms k) false
calls_for r p (way.Cut n) = not (p n) && list_any (λ (t : PropNumbers). (t.onto == n) && not (decides_prop p t)) r.props
calls_for r p (way.Bridge k) = option_map_or (λ t. p t.onto && not (decides_prop p t)) (slice_get r.props k) false

abbrev pub or_numbers : Shape → List ℕ
or_numbers (shape.Or a b) = a ∷ b ∷ []
or_numbers _ = []

-- the numbers of which the step adds one
abbrev pub additions : Rules → Step → List ℕ
additions r (way.And n) = []
additions r (way.Or n) = option_map_or or_numbers (slice_get r.shapes n) []
additions r (way.Axiom k) = option_map_or (λ a. a.left ∷ a.right ∷ []) (slice_get r.axioms k) []
additions r (way.Cut n) = option_map_or (λ (t : PropNumbers). n ∷ t.not_onto ∷ []) (find (λ (t : PropNumbers). t.onto == n) r.props) []
additions r (way.Bridge k) = option_map_or (λ t. t.into) (slice_get r.props k) []

-- is this the universal restriction of the role to the concept with the number k
abbrev pub is_all : ℕ → ℕ → Shape → Bool
is_all r k (shape.HasAll s m) = (r == s) && (k == m)
is_all r k _ = false

-- the second label has exactly what the first passes on along the role, beside c
abbrev pub IsSuccessor : Rules → (ℕ → Bool) → ℕ → ℕ → (ℕ → Bool) → Type 0
IsSuccessor r p role c q = (k : ℕ) → q k ≡ ((k == c) || any_at (λ n s. p n && is_all role k s) r.shapes)
