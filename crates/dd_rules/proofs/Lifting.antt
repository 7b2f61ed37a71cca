-- The words on labels mean the same of numbers as of concepts, where the concepts are distinct and closed.
use Rattle.std.proofs.Common.{◌≡◌, ◌∙◌, ◌||◌, ◌&&◌, ◌==◌, sym, refl, ap, ap₂, subst, ℕ, zero, suc, Bool, true, false, not, List, [], ◌∷◌, map, All, Contains, Decides, slice_get, Option, None, Some, inl, inr, arith}
use Rattle.std.specs.List.{list_any, list_all, find}
use Rattle.std.specs.Option.{option_map, option_map_or}
use Rattle.std.proofs.lemmas.Bool.{false≢true, or_cases, or_left, or_right, and_right, and_from, and_parts, cases_Bool, cond-true, cond-false, not-true, eqb-true, eq-eqb}
use Rattle.std.proofs.lemmas.Bool.Decides.{Decides-and}
use Rattle.std.proofs.lemmas.Option.{slice_get-map, same_Some, slice_get_within, get_or_from_slice_get}
use Rattle.std.proofs.lemmas.List.Elements.{All-nil, All-cons, All-head, All-tail, All-contains, All-weaker, Contains-get_or}
use Rattle.dd_concept.specs.declared.concept.Axiom.{Axiom}
use Rattle.dd_concept.specs.declared.concept.Concept.{Concept}
use Rattle.dd_concept.specs.declared.concept.Concept.TheOpen.{Concept-F}
use Rattle.dd_concept.specs.declared.concept.Concept.TheViews.{out-Concept, outs-Bottom, outs-Name, outs-Not, outs-And, outs-Or, outs-HasAll}
use Rattle.dd_concept.specs.declared.concept.Concept.TheVariants.{Bottom, Name, Not, And, Or, HasAll}
use Rattle.dd_concept.specs.Closed.{HasSides, HasTargets, IsClosedFor}
use Rattle.dd_concept.specs.Conjunction.{names_joined}
use Rattle.dd_concept.specs.Conjunction as conjunction
use Rattle.dd_concept.specs.Forms.{is_name, is_name_form}
use Rattle.dd_concept.specs.Normal.{nnf_of, nnf_not_of}
use Rattle.dd_concept.specs.Propagation.{Propagation}
use Rattle.dd_concept.specs.Same.{is_same, has}
use Rattle.dd_concept.specs.Saturated.{IsSaturated, clashes}
use Rattle.dd_concept.specs.Successor as following
use Rattle.dd_concept.specs.Steps as steps
use Rattle.dd_concept.specs.Steps.{Choice, on_or, on_axiom, on_propagation, IsPosed, is_decided, IsComplete, CallsFor}
use Rattle.dd_concept.proofs.SameIs.{of_form, of_form-out, is_same-is, is-is_same}
use Rattle.dd_concept.proofs.Sets.{has-head, has-tail, has-cases, same_tests}
use Rattle.dd_rules.specs.declared.shape.Shape.{Shape}
use Rattle.dd_rules.specs.declared.shape.Shape.TheVariants as shape
use Rattle.dd_rules.specs.declared.shape.Step.{Step}
use Rattle.dd_rules.specs.declared.shape.Step.TheVariants as way
use Rattle.dd_rules.specs.declared.tables.AxiomNumbers.{AxiomNumbers}
use Rattle.dd_rules.specs.Closure.{are_distinct}
use Rattle.dd_rules.specs.Numbers.{Rules, IsSuccessor, is_all, all_at, any_at, concepts_at, place_of, number_of, rules_of, shape_of, shape_form, not_shape, joined_of, axiom_numbers, prop_numbers, PropNumbers, has_all, has_joined, lacks_joined, keeps_and, keeps_axiom, is_saturated, is_not, clashes_at, has_clash, decides_or, decides_axiom, decides_prop, is_complete, is_open_or, or_numbers, calls_for, additions}
use Rattle.dd_rules.proofs.Numbered.{all_at-each, all_at-from, any_at-some, any_at-from, get-place, place-get, at-within, at-place, at-number, has-get}

pub implied : (a b : Bool) → a ≡ true → (not a || b) ≡ true → b ≡ true
implied true b e k = k
implied false b e k = absurd (false≢true e)

pub implies : (a b : Bool) → (a ≡ true → b ≡ true) → (not a || b) ≡ true
implies true b f = f refl
implies false b f = refl

-- a test of each image decides a fact of each item
list_all-decides : {A B : Type 0} (f : A → B) (t : B → Bool) (P : A → Type 0) (xs : List A) → All (λ x. Decides (t (f x)) (P x)) xs
    → Decides (list_all t (map f xs)) (All P xs)
list_all-decides f t P [] h = (λ _. All-nil P, λ _. refl)
list_all-decides f t P (x ∷ xs) h =
    let here = All-head (λ y. Decides (t (f y)) (P y)) x xs h in
    let rest = list_all-decides f t P xs (All-tail (λ y. Decides (t (f y)) (P y)) x xs h) in (
      λ e. let both = and_parts (t (f x)) (list_all t (map f xs)) e in All-cons P x xs (here.0 both.0) (rest.0 both.1),
      λ a. and_from (t (f x)) (list_all t (map f xs)) (here.1 (All-head P x xs a)) (rest.1 (All-tail P x xs a)),
    )

get-map : {A B : Type 0} (f : A → B) (xs : List A) (n : ℕ) (y : B) → slice_get (map f xs) n ≡ Some y → (x : A) × (slice_get xs n ≡ Some x) × (f x ≡ y)
get-map f [] n y e = cc
get-map f (x ∷ xs) zero y e = (x, refl, same_Some (f x) y e)
get-map f (x ∷ xs) (suc n) y e = get-map f xs n y e

-- an item of a label that passes
any-has : (t : Concept → Bool) (l : List Concept) (c : Concept) → has l c ≡ true → t c ≡ true → list_any t l ≡ true
any-has t [] c h k = absurd (false≢true h)
any-has t (d ∷ ds) c h k = elim (has-cases c d ds h) [
  | inl e ↦ or_left (t d) (list_any t ds) (subst (λ x. t x ≡ true) (sym e) k)
  | inr m ↦ or_right (t d) (list_any t ds) (any-has t ds c m k)
]

has-any : (t : Concept → Bool) (l : List Concept) → list_any t l ≡ true → (c : Concept) × (has l c ≡ true) × (t c ≡ true)
has-any t [] h = absurd (false≢true h)
has-any t (d ∷ ds) h = elim (or_cases (t d) (list_any t ds) h) [
  | inl e ↦ (d, has-head d ds, e)
  | inr e ↦ let found = has-any t ds e in (found.0, has-tail found.0 d ds found.1, found.2)
]

pub there : {A : Type 0} (o : Option A) (t : A → Bool) → option_map_or t o false ≡ true → (x : A) × (o ≡ Some x) × (t x ≡ true)
there None t h = absurd (false≢true h)
there (Some x) t h = (x, refl, h)

contains-get : {A : Type 0} (xs : List A) (k : ℕ) (x : A) → slice_get xs k ≡ Some x → Contains xs x
contains-get xs k x e = (k, slice_get_within xs k x e, get_or_from_slice_get xs k x x e)

contains-tail : {A : Type 0} (y : A) (ys : List A) (x : A) → Contains ys x → Contains (y ∷ ys) x
contains-tail y ys x m = (suc m.0, omega (arith, m.1), m.2)

any-map : {A B : Type 0} (f : A → B) (t : B → Bool) (xs : List A) → list_any t (map f xs) ≡ true → (x : A) × Contains xs x × (t (f x) ≡ true)
any-map f t [] h = absurd (false≢true h)
any-map f t (x ∷ xs) h = elim (or_cases (t (f x)) (list_any t (map f xs)) h) [
  | inl e ↦ (x, (zero, omega arith, refl), e)
  | inr e ↦ let found = any-map f t xs e in (found.0, contains-tail x xs found.0 found.1, found.2)
]

find-map : {A B : Type 0} (f : A → B) (t : B → Bool) (xs : List A) → list_any t (map f xs) ≡ true
    → (x : A) × Contains xs x × (find t (map f xs) ≡ Some (f x)) × (t (f x) ≡ true)
find-map f t [] h = absurd (false≢true h)
find-map f t (x ∷ xs) h = elim (cases_Bool (t (f x))) [
  | inl e ↦ (x, (zero, omega arith, refl), cond-true (t (f x)) (Some (f x)) (find t (map f xs)) e, e)
  | inr n ↦ let found = find-map f t xs (sym (ap (λ b. b || list_any t (map f xs)) n) ∙ h) in
      (found.0, contains-tail x xs found.0 found.1, cond-false (t (f x)) (Some (f x)) (find t (map f xs)) n ∙ found.2, found.3)
]

any-weaker : {A : Type 0} (s t : A → Bool) (xs : List A) → ((x : A) → s x ≡ true → t x ≡ true) → list_any s xs ≡ true → list_any t xs ≡ true
any-weaker s t [] f h = h
any-weaker s t (x ∷ xs) f h = elim (or_cases (s x) (list_any s xs) h) [
  | inl e ↦ or_left (t x) (list_any t xs) (f x e)
  | inr e ↦ or_right (t x) (list_any t xs) (any-weaker s t xs f e)
]

module _ (concepts : List Concept) (axioms : List Axiom) (props : List Propagation) (distinct : are_distinct concepts ≡ true)
    (closed : IsClosedFor axioms props concepts) (p : ℕ → Bool) where
  abbrev L : List Concept
  L = concepts_at concepts p

  abbrev shapes : List Shape
  shapes = map (shape_of concepts) concepts

  -- a concept of the closure that is in the label has its number there, and the other way round
  number-in : (c : Concept) → has L c ≡ true → p (place_of concepts c) ≡ true
  number-in c h = sym (at-place concepts p c distinct (at-within concepts p c h)) ∙ h

  in-number : (c : Concept) → has concepts c ≡ true → p (place_of concepts c) ≡ true → has L c ≡ true
  in-number c inside t = at-place concepts p c distinct inside ∙ t

  -- the concept at a number that passes
  pub in-get : (n : ℕ) (c : Concept) → slice_get concepts n ≡ Some c → p n ≡ true → has L c ≡ true
  in-get n c e t = in-number c (has-get concepts n c e) (ap p (place-get concepts n c distinct e) ∙ t)

  shape-at : (c : Concept) (y : Concept-F Concept) → out-Concept c ≡ y → has concepts c ≡ true → slice_get shapes (place_of concepts c) ≡ Some (shape_form concepts y)
  shape-at c y is inside = slice_get-map (shape_of concepts) concepts (place_of concepts c)
      ∙ ap (option_map (shape_of concepts)) (get-place concepts c inside) ∙ ap (λ z. Some (shape_form concepts z)) is

  -- what holds of the form of each concept of the list holds of each shape
  pub each-shape : (P : ℕ → Shape → Type 0) → ((n : ℕ) (y : Concept-F Concept) → slice_get concepts n ≡ Some (of_form y) → P n (shape_form concepts y))
      → (n : ℕ) (s : Shape) → slice_get shapes n ≡ Some s → P n s
  each-shape P h n s e =
      let found = get-map (shape_of concepts) concepts n s e in
      subst (P n) found.2 (h n (out-Concept found.0) (found.1 ∙ ap Some (sym (of_form-out found.0))))

  -- ---- conjunctions

  Ands : Type 0
  Ands = (c d : Concept) → has L (And c d) ≡ true → (has L c ≡ true) × (has L d ≡ true)

  ands-up : all_at (keeps_and p) shapes ≡ true → Ands
  unfolding Ands
  ands-up all c d h =
      let inside = at-within concepts p (And c d) h in
      let parts = closed.parts.ands c d inside in
      let kept = all_at-each (keeps_and p) shapes (place_of concepts (And c d)) (shape.And (place_of concepts c) (place_of concepts d)) all
      (shape-at (And c d) (Concept-F.And c d) (outs-And c d) inside) in
      let both = and_parts (p (place_of concepts c)) (p (place_of concepts d))
      (implied (p (place_of concepts (And c d))) (p (place_of concepts c) && p (place_of concepts d)) (number-in (And c d) h) kept) in
      (in-number c parts.0 both.0, in-number d parts.1 both.1)

  plain_not : (n : ℕ) (z : Concept-F Concept) → keeps_and p n (not_shape z) ≡ true
  plain_not n (Concept-F.Name a) = refl
  plain_not n _ = refl

  and-form : Ands → (n : ℕ) (y : Concept-F Concept) → slice_get concepts n ≡ Some (of_form y) → keeps_and p n (shape_form concepts y) ≡ true
  unfolding Ands
  and-form h n (Concept-F.And c d) e = implies (p n) (p (place_of concepts c) && p (place_of concepts d)) (λ t.
      let both = h c d (in-get n (And c d) e t) in
      and_from (p (place_of concepts c)) (p (place_of concepts d)) (number-in c both.0) (number-in d both.1))
  and-form h n (Concept-F.Not c) e = plain_not n (out-Concept c)
  and-form h n _ e = refl

  ands-decided : Decides (all_at (keeps_and p) shapes) Ands
  ands-decided = (ands-up, λ h. all_at-from (keeps_and p) shapes (each-shape (λ n s. keeps_and p n s ≡ true) (and-form h)))

  -- ---- conjunctions of names

  names-same : (names : List ℕ) → has_all p (map (λ a. number_of concepts (Name a)) names) ≡ conjunction.has_names L names
  names-same [] = refl
  names-same (a ∷ as') = ap₂ (λ x y. x && y) (at-number concepts p (Name a) distinct) (names-same as')

  joined-at : (o : Option (List ℕ)) → has_joined p (option_map (map (λ a. number_of concepts (Name a))) o) ≡ option_map_or (conjunction.has_names L) o false
  joined-at None = refl
  joined-at (Some names) = names-same names

  joined-same : (c : Concept) → has_joined p (joined_of concepts c) ≡ conjunction.has_joined L c
  joined-same c = joined-at (names_joined c)

  lacks-at : (o : Option (List ℕ)) → lacks_joined p (option_map (map (λ a. number_of concepts (Name a))) o) ≡ option_map_or (λ names. not (conjunction.has_names L names)) o false
  lacks-at None = refl
  lacks-at (Some names) = ap not (names-same names)

  lacks-same : (c : Concept) → lacks_joined p (joined_of concepts c) ≡ conjunction.lacks_joined L c
  lacks-same c = lacks-at (names_joined c)

  -- ---- saturated

  Right : Axiom → Type 0
  Right a = conjunction.has_joined L a.left ≡ true → has L (nnf_of a.right) ≡ true

  right-decided : (a : Axiom) → HasSides concepts a → Decides (keeps_axiom p (axiom_numbers concepts a)) (Right a)
  unfolding Right
  right-decided a s = (
    λ t j. in-number (nnf_of a.right) s.right (implied (has_joined p (joined_of concepts a.left)) (p (place_of concepts (nnf_of a.right))) (joined-same a.left ∙ j) t),
    λ r. implies (has_joined p (joined_of concepts a.left)) (p (place_of concepts (nnf_of a.right))) (λ j. number-in (nnf_of a.right) (r (sym (joined-same a.left) ∙ j))),
  )

  pub is_saturated-decides : Decides (is_saturated (rules_of concepts axioms props) p) (IsSaturated axioms L)
  unfolding Ands Right
  is_saturated-decides =
      let rights = list_all-decides (axiom_numbers concepts) (keeps_axiom p) Right axioms
      (All-weaker (HasSides concepts) (λ a. Decides (keeps_axiom p (axiom_numbers concepts a)) (Right a)) right-decided axioms closed.sides) in
      let both = Decides-and (all_at (keeps_and p) shapes) (list_all (keeps_axiom p) (map (axiom_numbers concepts) axioms)) ands-decided rights in
      (λ t. let h = both.0 t in record { ands = h.0; rights = h.1 }, λ s. both.1 (s.ands, s.rights))

  -- ---- complete

  Ors : Type 0
  Ors = (c d : Concept) → has L (Or c d) ≡ true → (has L c || has L d) ≡ true

  either-same : (c d : Concept) → has concepts c ≡ true → has concepts d ≡ true → (p (place_of concepts c) || p (place_of concepts d)) ≡ (has L c || has L d)
  either-same c d h k = ap₂ (λ x y. x || y) (sym (at-place concepts p c distinct h)) (sym (at-place concepts p d distinct k))

  ors-up : all_at (decides_or p) shapes ≡ true → Ors
  unfolding Ors
  ors-up all c d h =
      let inside = at-within concepts p (Or c d) h in
      let parts = closed.parts.ors c d inside in
      let kept = all_at-each (decides_or p) shapes (place_of concepts (Or c d)) (shape.Or (place_of concepts c) (place_of concepts d)) all
      (shape-at (Or c d) (Concept-F.Or c d) (outs-Or c d) inside) in
      sym (either-same c d parts.0 parts.1) ∙ implied (p (place_of concepts (Or c d))) (p (place_of concepts c) || p (place_of concepts d)) (number-in (Or c d) h) kept

  no_or : (n : ℕ) (z : Concept-F Concept) → decides_or p n (not_shape z) ≡ true
  no_or n (Concept-F.Name a) = refl
  no_or n _ = refl

  or-form : Ors → (n : ℕ) (y : Concept-F Concept) → slice_get concepts n ≡ Some (of_form y) → decides_or p n (shape_form concepts y) ≡ true
  unfolding Ors
  or-form h n (Concept-F.Or c d) e = implies (p n) (p (place_of concepts c) || p (place_of concepts d)) (λ t.
      let parts = closed.parts.ors c d (has-get concepts n (Or c d) e) in
      either-same c d parts.0 parts.1 ∙ h c d (in-get n (Or c d) e t))
  or-form h n (Concept-F.Not c) e = no_or n (out-Concept c)
  or-form h n _ e = refl

  ors-decided : Decides (all_at (decides_or p) shapes) Ors
  ors-decided = (ors-up, λ h. all_at-from (decides_or p) shapes (each-shape (λ n s. decides_or p n s ≡ true) (or-form h)))

  axiom-same : (a : Axiom) → HasSides concepts a → decides_axiom p (axiom_numbers concepts a) ≡ is_decided L (on_axiom a)
  axiom-same a s = ap₂ (λ x y. x || y)
      (ap₂ (λ x y. x || y) (sym (at-place concepts p (nnf_of a.right) distinct s.right)) (sym (at-place concepts p (nnf_not_of a.left) distinct s.left))) (lacks-same a.left)

  into-same : (into : List Concept) → All (λ c. has concepts c ≡ true) into → list_any p (map (place_of concepts) into) ≡ list_any (has L) into
  into-same [] h = refl
  into-same (c ∷ cs) h = ap₂ (λ x y. x || y) (sym (at-place concepts p c distinct (All-head (λ d. has concepts d ≡ true) c cs h)))
      (into-same cs (All-tail (λ d. has concepts d ≡ true) c cs h))

  prop-same : (t : Propagation) → HasTargets concepts t → decides_prop p (prop_numbers concepts t) ≡ is_decided L (on_propagation t)
  prop-same t h = ap₂ (λ x y. x || y)
      (ap₂ (λ x y. x || y) (sym (at-place concepts p (nnf_not_of t.onto) distinct h.not_onto)) (lacks-same t.onto)) (into-same t.into h.into)

  at-same : (a b : Bool) → a ≡ b → Decides a (b ≡ true)
  at-same a b e = (λ t. sym e ∙ t, λ t. e ∙ t)

  Complete : Type 0
  Complete = Ors × (All (λ a. is_decided L (on_axiom a) ≡ true) axioms × All (λ t. is_decided L (on_propagation t) ≡ true) props)

  complete-parts : Decides (is_complete (rules_of concepts axioms props) p) Complete
  unfolding Complete
  complete-parts = Decides-and (all_at (decides_or p) shapes)
      (list_all (decides_axiom p) (map (axiom_numbers concepts) axioms) && list_all (decides_prop p) (map (prop_numbers concepts) props)) ors-decided
      (Decides-and (list_all (decides_axiom p) (map (axiom_numbers concepts) axioms)) (list_all (decides_prop p) (map (prop_numbers concepts) props))
      (list_all-decides (axiom_numbers concepts) (decides_axiom p) (λ a. is_decided L (on_axiom a) ≡ true) axioms
      (All-weaker (HasSides concepts) (λ a. Decides (decides_axiom p (axiom_numbers concepts a)) (is_decided L (on_axiom a) ≡ true)) (λ a s. at-same _ _ (axiom-same a s)) axioms closed.sides))
      (list_all-decides (prop_numbers concepts) (decides_prop p) (λ t. is_decided L (on_propagation t) ≡ true) props
      (All-weaker (HasTargets concepts) (λ t. Decides (decides_prop p (prop_numbers concepts t)) (is_decided L (on_propagation t) ≡ true)) (λ t s. at-same _ _ (prop-same t s)) props closed.targets)))

  complete-from : Complete → IsComplete axioms props L
  unfolding Complete Ors
  complete-from h (on_or c d) posed = h.0 c d posed
  complete-from h (on_axiom a) posed = All-contains (λ x. is_decided L (on_axiom x) ≡ true) axioms a h.1.0 posed
  complete-from h (on_propagation t) posed = All-contains (λ x. is_decided L (on_propagation x) ≡ true) props t h.1.1 posed

  complete-to : IsComplete axioms props L → Complete
  unfolding Complete Ors
  complete-to h = (
    λ c d posed. h (on_or c d) posed,
    (λ k d lt. h (on_axiom _) (Contains-get_or axioms k d lt), λ k d lt. h (on_propagation _) (Contains-get_or props k d lt)),
  )

  pub is_complete-decides : Decides (is_complete (rules_of concepts axioms props) p) (IsComplete axioms props L)
  is_complete-decides = (λ t. complete-from (complete-parts.0 t), λ h. complete-parts.1 (complete-to h))

  -- ---- clashes

  abbrev r : Rules
  r = rules_of concepts axioms props

  not-inner : (a m : ℕ) (z : Concept-F Concept) → slice_get concepts m ≡ Some (Not (of_form z)) → (p m && is_not a (not_shape z)) ≡ true → has L (Not (Name a)) ≡ true
  not-inner a m (Concept-F.Name b) e t =
      let both = and_parts (p m) (a == b) t in
      subst (λ x. has L (Not (Name x)) ≡ true) (sym (eqb-true a b both.1)) (in-get m (Not (Name b)) e both.0)
  not-inner a m z e t = absurd (false≢true (and_parts (p m) false t).1)

  not-form : (a m : ℕ) (y : Concept-F Concept) → slice_get concepts m ≡ Some (of_form y) → (p m && is_not a (shape_form concepts y)) ≡ true → has L (Not (Name a)) ≡ true
  not-form a m (Concept-F.Not c) e t = not-inner a m (out-Concept c) (e ∙ ap (λ x. Some (Not x)) (sym (of_form-out c))) t
  not-form a m y e t = absurd (false≢true (and_parts (p m) false t).1)

  pub not-up : (a : ℕ) → any_at (λ m s. p m && is_not a s) shapes ≡ true → has L (Not (Name a)) ≡ true
  not-up a h =
      let found = any_at-some (λ m s. p m && is_not a s) shapes h in
      each-shape (λ m s. (p m && is_not a s) ≡ true → has L (Not (Name a)) ≡ true) (not-form a) found.0 found.1 found.2 found.3

  no_clash : (n : ℕ) (z : Concept-F Concept) → clashes_at r p n (not_shape z) ≡ false
  no_clash n (Concept-F.Name a) = refl
  no_clash n _ = refl

  clash-form : (n : ℕ) (y : Concept-F Concept) → slice_get concepts n ≡ Some (of_form y) → clashes_at r p n (shape_form concepts y) ≡ true → clashes L ≡ true
  clash-form n Concept-F.Bottom e t = or_left (has L Bottom) (list_any (λ c. is_name c && has L (Not c)) L) (in-get n Bottom e t)
  clash-form n (Concept-F.Name a) e t =
      let both = and_parts (p n) (any_at (λ m s. p m && is_not a s) shapes) t in
      or_right (has L Bottom) (list_any (λ c. is_name c && has L (Not c)) L) (any-has (λ c. is_name c && has L (Not c)) L (Name a) (in-get n (Name a) e both.0)
      (and_from (is_name (Name a)) (has L (Not (Name a))) (ap is_name_form (outs-Name a)) (not-up a both.1)))
  clash-form n (Concept-F.Not c) e t = absurd (false≢true (sym (no_clash n (out-Concept c)) ∙ t))
  clash-form n y e t = absurd (false≢true t)

  name-form : (y : Concept-F Concept) → is_name_form y ≡ true → (a : ℕ) × (of_form y ≡ Name a)
  name-form (Concept-F.Name a) t = (a, refl)
  name-form y t = absurd (false≢true t)

  clash-name : (a : ℕ) → has L (Name a) ≡ true → has L (Not (Name a)) ≡ true → has_clash r p ≡ true
  clash-name a h k =
      let at_not : slice_get shapes (place_of concepts (Not (Name a))) ≡ Some (shape.Not a) =
      shape-at (Not (Name a)) (Concept-F.Not (Name a)) (outs-Not (Name a)) (at-within concepts p (Not (Name a)) k) ∙ ap (λ z. Some (not_shape z)) (outs-Name a) in
      any_at-from (clashes_at r p) shapes (place_of concepts (Name a)) (shape.Name a)
      (shape-at (Name a) (Concept-F.Name a) (outs-Name a) (at-within concepts p (Name a) h))
      (and_from (p (place_of concepts (Name a))) (any_at (λ m s. p m && is_not a s) shapes) (number-in (Name a) h)
      (any_at-from (λ m s. p m && is_not a s) shapes (place_of concepts (Not (Name a))) (shape.Not a) at_not
      (and_from (p (place_of concepts (Not (Name a)))) (a == a) (number-in (Not (Name a)) k) (eq-eqb a a refl))))

  clash-down : clashes L ≡ true → has_clash r p ≡ true
  clash-down h = elim (or_cases (has L Bottom) (list_any (λ c. is_name c && has L (Not c)) L) h) [
    | inl t ↦ any_at-from (clashes_at r p) shapes (place_of concepts Bottom) shape.Bottom
        (shape-at Bottom Concept-F.Bottom outs-Bottom (at-within concepts p Bottom t)) (number-in Bottom t)
    | inr t ↦
        let found = has-any (λ c. is_name c && has L (Not c)) L t in
        let both = and_parts (is_name found.0) (has L (Not found.0)) found.2 in
        let named = name-form (out-Concept found.0) both.0 in
        let is : found.0 ≡ Name named.0 = sym (of_form-out found.0) ∙ named.1 in
        clash-name named.0 (subst (λ x. has L x ≡ true) is found.1) (subst (λ x. has L (Not x) ≡ true) is both.1)
  ]

  pub has_clash-same : has_clash r p ≡ clashes L
  has_clash-same = same_tests (has_clash r p) (clashes L)
      (λ h. let found = any_at-some (clashes_at r p) shapes h in
      each-shape (λ n s. clashes_at r p n s ≡ true → clashes L ≡ true) clash-form found.0 found.1 found.2 found.3)
      clash-down

  -- ---- successor labels

  same-place : (c d : Concept) → has concepts c ≡ true → has concepts d ≡ true → place_of concepts c ≡ place_of concepts d → c ≡ d
  same-place c d h k e = same_Some c d (sym (get-place concepts c h) ∙ ap (slice_get concepts) e ∙ get-place concepts d k)

  no_all : (role n k : ℕ) (z : Concept-F Concept) → (p n && is_all role k (not_shape z)) ≡ false
  no_all role n k (Concept-F.Name a) = and_right (p n) false refl
  no_all role n k z = and_right (p n) false refl

  all-form : (role : ℕ) (d : Concept) → has concepts d ≡ true → (n : ℕ) (y : Concept-F Concept) → slice_get concepts n ≡ Some (of_form y)
      → (p n && is_all role (place_of concepts d) (shape_form concepts y)) ≡ true → has L (HasAll role d) ≡ true
  all-form role d inside n (Concept-F.HasAll s m) e t =
      let both = and_parts (p n) ((role == s) && (place_of concepts d == place_of concepts m)) t in
      let parts = and_parts (role == s) (place_of concepts d == place_of concepts m) both.1 in
      let is : m ≡ d = same-place m d (closed.parts.alls s m (has-get concepts n (HasAll s m) e)) inside (sym (eqb-true (place_of concepts d) (place_of concepts m) parts.1)) in
      subst (λ x. has L (HasAll role x) ≡ true) is (subst (λ x. has L (HasAll x m) ≡ true) (sym (eqb-true role s parts.0)) (in-get n (HasAll s m) e both.0))
  all-form role d inside n (Concept-F.Not c) e t = absurd (false≢true (sym (no_all role n (place_of concepts d) (out-Concept c)) ∙ t))
  all-form role d inside n y e t = absurd (false≢true (and_parts (p n) false t).1)

  -- a successor label of numbers is one of concepts
  pub successor-lifts : (role : ℕ) (c : Concept) → has concepts c ≡ true → (q : ℕ → Bool) → IsSuccessor r p role (place_of concepts c) q
      → following.IsSuccessor L role c (concepts_at concepts q)
  successor-lifts role c at_c q s d = same_tests (has (concepts_at concepts q) d) (is_same c d || has L (HasAll role d)) down up
    where
      passes : ℕ → Bool
      passes k = (k == place_of concepts c) || any_at (λ n sh. p n && is_all role k sh) shapes

      down : has (concepts_at concepts q) d ≡ true → (is_same c d || has L (HasAll role d)) ≡ true
      down h =
          let inside = at-within concepts q d h in
          elim (or_cases (place_of concepts d == place_of concepts c) (any_at (λ n sh. p n && is_all role (place_of concepts d) sh) shapes)
          (sym (s (place_of concepts d)) ∙ sym (at-place concepts q d distinct inside) ∙ h)) [
            | inl t ↦ or_left (is_same c d) (has L (HasAll role d)) (is-is_same c d (same-place c d at_c inside (sym (eqb-true (place_of concepts d) (place_of concepts c) t))))
            | inr t ↦
                let found = any_at-some (λ n sh. p n && is_all role (place_of concepts d) sh) shapes t in
                or_right (is_same c d) (has L (HasAll role d))
                (each-shape (λ n sh. (p n && is_all role (place_of concepts d) sh) ≡ true → has L (HasAll role d) ≡ true) (all-form role d inside) found.0 found.1 found.2 found.3)
          ]

      up : (is_same c d || has L (HasAll role d)) ≡ true → has (concepts_at concepts q) d ≡ true
      up h = elim (or_cases (is_same c d) (has L (HasAll role d)) h) [
        | inl t ↦ subst (λ x. has (concepts_at concepts q) x ≡ true) (is_same-is c d t)
            (at-place concepts q c distinct at_c ∙ s (place_of concepts c)
            ∙ or_left (place_of concepts c == place_of concepts c) (any_at (λ n sh. p n && is_all role (place_of concepts c) sh) shapes) (eq-eqb (place_of concepts c) (place_of concepts c) refl))
        | inr t ↦
            let whole = at-within concepts p (HasAll role d) t in
            let inside = closed.parts.alls role d whole in
            at-place concepts q d distinct inside ∙ s (place_of concepts d)
            ∙ or_right (place_of concepts d == place_of concepts c) (any_at (λ n sh. p n && is_all role (place_of concepts d) sh) shapes)
            (any_at-from (λ n sh. p n && is_all role (place_of concepts d) sh) shapes (place_of concepts (HasAll role d)) (shape.HasAll role (place_of concepts d))
            (shape-at (HasAll role d) (Concept-F.HasAll role d) (outs-HasAll role d) whole)
            (and_from (p (place_of concepts (HasAll role d))) ((role == role) && (place_of concepts d == place_of concepts d)) (number-in (HasAll role d) t)
            (and_from (role == role) (place_of concepts d == place_of concepts d) (eq-eqb role role refl) (eq-eqb (place_of concepts d) (place_of concepts d) refl))))
      ]

  -- ---- steps

  -- what the label calls for, and the concepts that the step adds, by their numbers
  pub record Lifts (s : Step) : Type 0 where
    pub choice : Choice
    pub calls : CallsFor axioms props L choice
    pub adds : additions r s ≡ map (place_of concepts) (steps.additions L choice)
    pub inside : All (λ c. has concepts c ≡ true) (steps.additions L choice)

  no_open : (n : ℕ) (z : Concept-F Concept) → is_open_or p n (not_shape z) ≡ false
  no_open n (Concept-F.Name a) = refl
  no_open n _ = refl

  or-lifts : (n : ℕ) (y : Concept-F Concept) → slice_get concepts n ≡ Some (of_form y) → slice_get shapes n ≡ Some (shape_form concepts y)
      → is_open_or p n (shape_form concepts y) ≡ true → Lifts (way.Or n)
  or-lifts n (Concept-F.Or c d) e at t =
      let both = and_parts (p n) (not (p (place_of concepts c) || p (place_of concepts d))) t in
      let parts = closed.parts.ors c d (has-get concepts n (Or c d) e) in
      record {
        choice = on_or c d;
        calls = record {
          posed = in-get n (Or c d) e both.0;
          undecided = sym (either-same c d parts.0 parts.1) ∙ not-true (p (place_of concepts c) || p (place_of concepts d)) both.1;
        };
        adds = ap (λ o. option_map_or or_numbers o []) at;
        inside = All-cons (λ x. has concepts x ≡ true) c (d ∷ []) parts.0 (All-cons (λ x. has concepts x ≡ true) d [] parts.1 (All-nil (λ x. has concepts x ≡ true)));
      }
  or-lifts n (Concept-F.Not c) e at t = absurd (false≢true (sym (no_open n (out-Concept c)) ∙ t))
  or-lifts n y e at t = absurd (false≢true t)

  or-step : (n : ℕ) → calls_for r p (way.Or n) ≡ true → Lifts (way.Or n)
  or-step n h =
      let found = there (slice_get shapes n) (is_open_or p n) h in
      let at = get-map (shape_of concepts) concepts n found.0 found.1 in
      or-lifts n (out-Concept at.0) (at.1 ∙ ap Some (sym (of_form-out at.0))) (found.1 ∙ ap Some (sym at.2)) (subst (λ s. is_open_or p n s ≡ true) (sym at.2) found.2)

  axiom-step : (k : ℕ) → calls_for r p (way.Axiom k) ≡ true → Lifts (way.Axiom k)
  axiom-step k h =
      let found = there (slice_get (map (axiom_numbers concepts) axioms) k) (λ a. not (decides_axiom p a)) h in
      let at = get-map (axiom_numbers concepts) axioms k found.0 found.1 in
      let in_list = contains-get axioms k at.0 at.1 in
      let sides = All-contains (HasSides concepts) axioms at.0 closed.sides in_list in
      record {
        choice = on_axiom at.0;
        calls = record {
          posed = in_list;
          undecided = sym (axiom-same at.0 sides) ∙ not-true (decides_axiom p (axiom_numbers concepts at.0)) (subst (λ x. not (decides_axiom p x) ≡ true) (sym at.2) found.2);
        };
        adds = ap (λ (o : Option AxiomNumbers). option_map_or (λ (a : AxiomNumbers). a.left ∷ a.right ∷ []) o []) (found.1 ∙ ap Some (sym at.2));
        inside = All-cons (λ x. has concepts x ≡ true) (nnf_not_of at.0.left) (nnf_of at.0.right ∷ []) sides.left
            (All-cons (λ x. has concepts x ≡ true) (nnf_of at.0.right) [] sides.right (All-nil (λ x. has concepts x ≡ true)));
      }

  bridge-adds : (t : Propagation) → has L t.onto ≡ true → steps.additions L (on_propagation t) ≡ t.into
  bridge-adds t h = cond-true (has L t.onto) t.into (t.onto ∷ nnf_not_of t.onto ∷ []) h

  cut-adds : (t : Propagation) → has L t.onto ≡ false → steps.additions L (on_propagation t) ≡ (t.onto ∷ nnf_not_of t.onto ∷ [])
  cut-adds t h = cond-false (has L t.onto) t.into (t.onto ∷ nnf_not_of t.onto ∷ []) h

  bridge-step : (k : ℕ) → calls_for r p (way.Bridge k) ≡ true → Lifts (way.Bridge k)
  bridge-step k h =
      let found = there (slice_get (map (prop_numbers concepts) props) k) (λ (t : PropNumbers). p t.onto && not (decides_prop p t)) h in
      let at = get-map (prop_numbers concepts) props k found.0 found.1 in
      let in_list = contains-get props k at.0 at.1 in
      let targets = All-contains (HasTargets concepts) props at.0 closed.targets in_list in
      let unmet : (p (place_of concepts at.0.onto) && not (decides_prop p (prop_numbers concepts at.0))) ≡ true =
      subst (λ (x : PropNumbers). (p x.onto && not (decides_prop p x)) ≡ true) (sym at.2) found.2 in
      let both = and_parts (p (place_of concepts at.0.onto)) (not (decides_prop p (prop_numbers concepts at.0))) unmet in
      let adds = bridge-adds at.0 (in-number at.0.onto targets.onto both.0) in
      record {
        choice = on_propagation at.0;
        calls = record {
          posed = in_list;
          undecided = sym (prop-same at.0 targets) ∙ not-true (decides_prop p (prop_numbers concepts at.0)) both.1;
        };
        adds = ap (λ (o : Option PropNumbers). option_map_or (λ (t : PropNumbers). t.into) o []) (found.1 ∙ ap Some (sym at.2)) ∙ ap (map (place_of concepts)) (sym adds);
        inside = subst (All (λ x. has concepts x ≡ true)) (sym adds) targets.into;
      }

  cut-step : (n : ℕ) → calls_for r p (way.Cut n) ≡ true → Lifts (way.Cut n)
  cut-step n h =
      let parts = and_parts (not (p n)) (list_any (λ (t : PropNumbers). (t.onto == n) && not (decides_prop p t)) (map (prop_numbers concepts) props)) h in
      let found = any-map (prop_numbers concepts) (λ (t : PropNumbers). (t.onto == n) && not (decides_prop p t)) props parts.1 in
      let first = find-map (prop_numbers concepts) (λ (t : PropNumbers). t.onto == n) props
      (any-weaker (λ (t : PropNumbers). (t.onto == n) && not (decides_prop p t)) (λ (t : PropNumbers). t.onto == n) (map (prop_numbers concepts) props)
      (λ t e. (and_parts (t.onto == n) (not (decides_prop p t)) e).0) parts.1) in
      let targets = All-contains (HasTargets concepts) props found.0 closed.targets found.1 in
      let other = All-contains (HasTargets concepts) props first.0 closed.targets first.1 in
      let both = and_parts (place_of concepts found.0.onto == n) (not (decides_prop p (prop_numbers concepts found.0))) found.2 in
      let place : place_of concepts found.0.onto ≡ n = eqb-true (place_of concepts found.0.onto) n both.0 in
      let one : first.0.onto ≡ found.0.onto = same-place first.0.onto found.0.onto other.onto targets.onto (eqb-true (place_of concepts first.0.onto) n first.3 ∙ sym place) in
      let adds = cut-adds found.0 (at-place concepts p found.0.onto distinct targets.onto ∙ ap p place ∙ not-true (p n) parts.0) in
      record {
        choice = on_propagation found.0;
        calls = record {
          posed = found.1;
          undecided = sym (prop-same found.0 targets) ∙ not-true (decides_prop p (prop_numbers concepts found.0)) both.1;
        };
        adds = ap (λ (o : Option PropNumbers). option_map_or (λ (t : PropNumbers). n ∷ t.not_onto ∷ []) o []) first.2
            ∙ ap₂ (λ m c. m ∷ place_of concepts (nnf_not_of c) ∷ []) (sym place) one ∙ ap (map (place_of concepts)) (sym adds);
        inside = subst (All (λ x. has concepts x ≡ true)) (sym adds) (All-cons (λ x. has concepts x ≡ true) found.0.onto (nnf_not_of found.0.onto ∷ []) targets.onto
            (All-cons (λ x. has concepts x ≡ true) (nnf_not_of found.0.onto) [] targets.not_onto (All-nil (λ x. has concepts x ≡ true))));
      }

  -- each step that the numbers call for is one that the label calls for
  pub steps-lift : (s : Step) → calls_for r p s ≡ true → Lifts s
  steps-lift (way.And n) h = absurd (false≢true h)
  steps-lift (way.Or n) h = or-step n h
  steps-lift (way.Axiom k) h = axiom-step k h
  steps-lift (way.Cut n) h = cut-step n h
  steps-lift (way.Bridge k) h = bridge-step k h
