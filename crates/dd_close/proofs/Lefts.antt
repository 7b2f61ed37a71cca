-- Clashes, and complements of conjunctions of names, in numbers.
use Rattle.std.proofs.Common.{◌≡◌, ◌∙◌, ◌<◌, ◌++◌, ◌||◌, ◌&&◌, ◌==◌, sym, refl, ap, subst, ℕ, Bool, true, false, List, [], ◌∷◌, length, map, slice_get, None, Some, Option, inl, inr, arith}
use Rattle.std.specs.Option.{option_map, option_map_or}
use Rattle.std.proofs.lemmas.Bool.{false≢true, or_cases, or_left, or_right, and_from, and_parts, eqb-true, eq-eqb, cases_Bool, cond-true, cond-false}
use Rattle.std.proofs.lemmas.Option.{same_Some, slice_get-map, slice_get_within}
use Rattle.dd_concept.specs.declared.concept.Concept.{Concept}
use Rattle.dd_concept.specs.declared.concept.Concept.TheOpen.{Concept-F}
use Rattle.dd_concept.specs.declared.concept.Concept.TheViews.{out-Concept, outs-Bottom, outs-Name, outs-Not, outs-Or}
use Rattle.dd_concept.specs.declared.concept.Concept.TheVariants.{Top, Bottom, Name, Not, And, Or, HasSome, HasAll}
use Rattle.dd_concept.specs.Closed.{HasParts, IsClosedFor}
use Rattle.dd_concept.specs.Conjunction.{names_joined, both_lists}
use Rattle.dd_concept.specs.Normal.{nnf_not_of}
use Rattle.dd_concept.specs.Same.{has}
use Rattle.dd_concept.specs.Counts.{node_count, node_count_at}
use Rattle.dd_concept.proofs.Folds.{fold-And}
use Rattle.dd_concept.proofs.Equations.{nnf_not_of-And}
use Rattle.dd_concept.proofs.SameIs.{of_form, of_form-out}
use Rattle.dd_concept.proofs.JoinedForms.{joined-And, joined-Name, joined-Bottom, joined-Not, joined-Or, joined-HasSome, joined-HasAll}
use Rattle.dd_graph.specs.Right.{adding}
use Rattle.dd_graph.specs.View.{GraphView, rules_at}
use Rattle.dd_rules.specs.Closure.{are_distinct}
use Rattle.dd_rules.specs.Forced.{is_bottom, is_clash, is_name}
use Rattle.dd_rules.specs.Numbers.{any_at, has_all, has_joined, is_not, joined_of, not_shape, number_of, place_of, shape_form, shape_of}
use Rattle.dd_rules.specs.declared.clash.Clash.{Clash}
use Rattle.dd_rules.specs.declared.clash.Clash.TheVariants as way_out
use Rattle.dd_rules.specs.declared.shape.Shape.TheVariants as shape
use Rattle.dd_rules.proofs.ClashLifts.{clash-seen}
use Rattle.dd_rules.proofs.Numbered.{any_at-from, at-place, at-within, get-place, has-get, place-get}
use Rattle.dd_close.specs.Parts.{IsClashLabel}

pub place-low : (cs : List Concept) (c : Concept) → has cs c ≡ true → place_of cs c < length cs
place-low cs c h = slice_get_within cs (place_of cs c) c (get-place cs c h)

pub number-place : (cs : List Concept) (c : Concept) (n : ℕ) → has cs c ≡ true → Some n ≡ number_of cs c → n ≡ place_of cs c
number-place cs c n h e = same_Some n (place_of cs c) (e ∙ cond-true (has cs c) (Some (place_of cs c)) None h)

pub no-number : (cs : List Concept) (c : Concept) → has cs c ≡ true → None ≡ number_of cs c → ⊥
no-number cs c h e = cc (e, cond-true (has cs c) (Some (place_of cs c)) None h)

-- a name that a set has is one of the concepts
pub number-has : (cs : List Concept) (p : ℕ → Bool) (c : Concept) → option_map_or p (number_of cs c) false ≡ true → (has cs c ≡ true) × (p (place_of cs c) ≡ true)
number-has cs p c h = elim (cases_Bool (has cs c)) [
  | inl t ↦ (t, ap (λ o. option_map_or p o false) (sym (cond-true (has cs c) (Some (place_of cs c)) None t)) ∙ h)
  | inr f ↦ absurd (false≢true (ap (λ o. option_map_or p o false) (sym (cond-false (has cs c) (Some (place_of cs c)) None f)) ∙ h))
]

pub shape-get : (cs : List Concept) (n : ℕ) (c : Concept) → slice_get cs n ≡ Some c → slice_get (map (shape_of cs) cs) n ≡ Some (shape_of cs c)
shape-get cs n c e = slice_get-map (shape_of cs) cs n ∙ ap (option_map (shape_of cs)) e

shape-place : (cs : List Concept) (c : Concept) → has cs c ≡ true → slice_get (map (shape_of cs) cs) (place_of cs c) ≡ Some (shape_of cs c)
shape-place cs c h = shape-get cs (place_of cs c) c (get-place cs c h)

shape-Not : (cs : List Concept) (a : ℕ) → shape_of cs (Not (Name a)) ≡ shape.Not a
shape-Not cs a = ap (shape_form cs) (outs-Not (Name a)) ∙ ap not_shape (outs-Name a)

-- ---- clashes

module _ (v : GraphView) (distinct : are_distinct v.closure.concepts ≡ true) (closed : HasParts v.closure.concepts) where
  abbrev cs : List Concept
  cs = v.closure.concepts

  bare : IsClosedFor [] [] cs
  bare = record { parts = closed; sides = λ k d lt. absurd (omega (arith, lt)); targets = λ k d lt. absurd (omega (arith, lt)) }

  pub bottom-clash : (p : ℕ → Bool) → has cs Bottom ≡ true → p (place_of cs Bottom) ≡ true → is_clash (rules_at v) p way_out.Bottom ≡ true
  bottom-clash p h t = any_at-from (λ n s. p n && is_bottom s) (map (shape_of cs) cs) (place_of cs Bottom) shape.Bottom
      (shape-place cs Bottom h ∙ ap (λ y. Some (shape_form cs y)) outs-Bottom) (and_from (p (place_of cs Bottom)) true t refl)

  pub name-clash : (p : ℕ → Bool) (a : ℕ) → has cs (Name a) ≡ true → has cs (Not (Name a)) ≡ true → p (place_of cs (Name a)) ≡ true → p (place_of cs (Not (Name a))) ≡ true
      → is_clash (rules_at v) p (way_out.Name a) ≡ true
  name-clash p a h k t u = and_from (any_at (λ n s. p n && is_name a s) (map (shape_of cs) cs)) (any_at (λ n s. p n && is_not a s) (map (shape_of cs) cs))
      (any_at-from (λ n s. p n && is_name a s) (map (shape_of cs) cs) (place_of cs (Name a)) (shape.Name a)
      (shape-place cs (Name a) h ∙ ap (λ y. Some (shape_form cs y)) (outs-Name a)) (and_from (p (place_of cs (Name a))) (a == a) t (eq-eqb a a refl)))
      (any_at-from (λ n s. p n && is_not a s) (map (shape_of cs) cs) (place_of cs (Not (Name a))) (shape.Not a)
      (shape-place cs (Not (Name a)) k ∙ ap Some (shape-Not cs a)) (and_from (p (place_of cs (Not (Name a)))) (a == a) u (eq-eqb a a refl)))

  -- what clashes is in the closure, and its numbers are in the set
  pub clash-bottom : (p : ℕ → Bool) → is_clash (rules_at v) p way_out.Bottom ≡ true → (has cs Bottom ≡ true) × (p (place_of cs Bottom) ≡ true)
  clash-bottom p h =
      let seen = clash-seen cs distinct bare p (Some way_out.Bottom) h in
      let inside = at-within cs p Bottom seen in
      (inside, sym (at-place cs p Bottom distinct inside) ∙ seen)

  pub clash-name : (p : ℕ → Bool) (a : ℕ) → is_clash (rules_at v) p (way_out.Name a) ≡ true
      → ((has cs (Name a) ≡ true) × (p (place_of cs (Name a)) ≡ true)) × ((has cs (Not (Name a)) ≡ true) × (p (place_of cs (Not (Name a))) ≡ true))
  clash-name p a h =
      let seen = clash-seen cs distinct bare p (Some (way_out.Name a)) h in
      let inside = at-within cs p (Name a) seen.0 in
      let other = at-within cs p (Not (Name a)) seen.1 in
      ((inside, sym (at-place cs p (Name a) distinct inside) ∙ seen.0), (other, sym (at-place cs p (Not (Name a)) distinct other) ∙ seen.1))

  pub bottom-label : (none p : ℕ → Bool) → has cs Bottom ≡ true → ((k : ℕ) → none k ≡ false) → ((k : ℕ) → p k ≡ ((k == place_of cs Bottom) || none k))
      → IsClashLabel (rules_at v) way_out.Bottom p
  bottom-label none p h empty with_it = record {
    has_it = bottom-clash p h (with_it (place_of cs Bottom) ∙ or_left (place_of cs Bottom == place_of cs Bottom) (none (place_of cs Bottom)) (eq-eqb (place_of cs Bottom) (place_of cs Bottom) refl));
    least = λ q c k t. elim (or_cases (k == place_of cs Bottom) (none k) (sym (with_it k) ∙ t)) [
      | inl is ↦ subst (λ n. q n ≡ true) (sym (eqb-true k (place_of cs Bottom) is)) (clash-bottom q c).1
      | inr was ↦ absurd (false≢true (sym (empty k) ∙ was))
    ];
  }

  pub name-label : (none one p : ℕ → Bool) (a : ℕ) → has cs (Name a) ≡ true → has cs (Not (Name a)) ≡ true → ((k : ℕ) → none k ≡ false)
      → ((k : ℕ) → one k ≡ ((k == place_of cs (Not (Name a))) || none k)) → ((k : ℕ) → p k ≡ ((k == place_of cs (Name a)) || one k))
      → IsClashLabel (rules_at v) (way_out.Name a) p
  name-label none one p a h k empty first second = record {
    has_it = name-clash p a h k (second n ∙ or_left (n == n) (one n) (eq-eqb n n refl))
        (second m ∙ or_right (m == n) (one m) (first m ∙ or_left (m == m) (none m) (eq-eqb m m refl)));
    least = λ q c i t. elim (or_cases (i == n) (one i) (sym (second i) ∙ t)) [
      | inl is ↦ subst (λ j. q j ≡ true) (sym (eqb-true i n is)) (clash-name q a c).0.1
      | inr was ↦ elim (or_cases (i == m) (none i) (sym (first i) ∙ was)) [
        | inl is ↦ subst (λ j. q j ≡ true) (sym (eqb-true i m is)) (clash-name q a c).1.1
        | inr never ↦ absurd (false≢true (sym (empty i) ∙ never))
      ]
    ];
  }
    where
      n : ℕ
      n = place_of cs (Name a)

      m : ℕ
      m = place_of cs (Not (Name a))

  -- the clash of a complement and its name
  pub top-clash : (set : ℕ → Bool) (n : ℕ) → slice_get cs n ≡ Some Bottom → is_clash (rules_at v) (adding n set) way_out.Bottom ≡ true
  top-clash set n e = bottom-clash (adding n set) (has-get cs n Bottom e)
      (or_left (place_of cs Bottom == n) (set (place_of cs Bottom)) (eq-eqb (place_of cs Bottom) n (place-get cs n Bottom distinct e)))

  pub left-clash : (set : ℕ → Bool) (n a : ℕ) → slice_get cs n ≡ Some (Not (Name a)) → option_map_or set (number_of cs (Name a)) false ≡ true
      → is_clash (rules_at v) (adding n set) (way_out.Name a) ≡ true
  left-clash set n a e h =
      let name = number-has cs set (Name a) h in
      name-clash (adding n set) a name.0 (has-get cs n (Not (Name a)) e)
      (or_right (place_of cs (Name a) == n) (set (place_of cs (Name a))) name.1)
      (or_left (place_of cs (Not (Name a)) == n) (set (place_of cs (Not (Name a)))) (eq-eqb (place_of cs (Not (Name a))) n (place-get cs n (Not (Name a)) distinct e)))

  -- a clash of a set is one of the closure
  pub clash-everywhere-top : (n : ℕ) → slice_get cs n ≡ Some Bottom → is_clash (rules_at v) (λ k. true) way_out.Bottom ≡ true
  clash-everywhere-top n e = bottom-clash (λ k. true) (has-get cs n Bottom e) refl

  pub clash-everywhere-name : (set : ℕ → Bool) (n a : ℕ) → slice_get cs n ≡ Some (Not (Name a)) → option_map_or set (number_of cs (Name a)) false ≡ true
      → is_clash (rules_at v) (λ k. true) (way_out.Name a) ≡ true
  clash-everywhere-name set n a e h = name-clash (λ k. true) a (number-has cs set (Name a) h).0 (has-get cs n (Not (Name a)) e) refl refl

  -- ---- complements of conjunctions

  pub or-shape : (n : ℕ) (d e : Concept) → slice_get cs n ≡ Some (nnf_not_of (And d e))
      → slice_get (rules_at v).shapes n ≡ Some (shape.Or (place_of cs (nnf_not_of d)) (place_of cs (nnf_not_of e)))
  or-shape n d e at = shape-get cs n (nnf_not_of (And d e)) at ∙ ap (λ c. Some (shape_of cs c)) (nnf_not_of-And d e)
      ∙ ap (λ y. Some (shape_form cs y)) (outs-Or (nnf_not_of d) (nnf_not_of e))

  or-inside : (n : ℕ) (d e : Concept) → slice_get cs n ≡ Some (nnf_not_of (And d e)) → (has cs (nnf_not_of d) ≡ true) × (has cs (nnf_not_of e) ≡ true)
  or-inside n d e at = closed.ors (nnf_not_of d) (nnf_not_of e) (has-get cs n (Or (nnf_not_of d) (nnf_not_of e)) (at ∙ ap Some (nnf_not_of-And d e)))

  pub or-left : (n x y : ℕ) (d e : Concept) → slice_get cs n ≡ Some (nnf_not_of (And d e)) → slice_get (rules_at v).shapes n ≡ Some (shape.Or x y) → slice_get cs x ≡ Some (nnf_not_of d)
  or-left n x y d e at is =
      subst (λ k. slice_get cs k ≡ Some (nnf_not_of d)) (or-first (place_of cs (nnf_not_of d)) (place_of cs (nnf_not_of e)) x y (sym (or-shape n d e at) ∙ is)) (get-place cs (nnf_not_of d) (or-inside n d e at).0)
    where
      or-first : (a b x y : ℕ) → Some (shape.Or a b) ≡ Some (shape.Or x y) → a ≡ x
      or-first a b x y e = cc

  pub or-right : (n x y : ℕ) (d e : Concept) → slice_get cs n ≡ Some (nnf_not_of (And d e)) → slice_get (rules_at v).shapes n ≡ Some (shape.Or x y) → slice_get cs y ≡ Some (nnf_not_of e)
  or-right n x y d e at is =
      subst (λ k. slice_get cs k ≡ Some (nnf_not_of e)) (or-second (place_of cs (nnf_not_of d)) (place_of cs (nnf_not_of e)) x y (sym (or-shape n d e at) ∙ is)) (get-place cs (nnf_not_of e) (or-inside n d e at).1)
    where
      or-second : (a b x y : ℕ) → Some (shape.Or a b) ≡ Some (shape.Or x y) → b ≡ y
      or-second a b x y e = cc

-- the names of a conjunction are those of its parts
both-joined : (p : ℕ → Bool) (f : ℕ → Option ℕ) (a b : Option (List ℕ)) → has_joined p (option_map (map f) (both_lists a b)) ≡ true
    → (has_joined p (option_map (map f) a) ≡ true) × (has_joined p (option_map (map f) b) ≡ true)
both-joined p f None b h = absurd (false≢true h)
both-joined p f (Some xs) None h = absurd (false≢true h)
both-joined p f (Some []) (Some ys) h = (refl, h)
both-joined p f (Some (x ∷ xs)) (Some ys) h =
    let both = and_parts (option_map_or p (f x) false) (has_all p (map f (xs ++ ys))) h in
    let rest = both-joined p f (Some xs) (Some ys) both.1 in
    (and_from (option_map_or p (f x) false) (has_all p (map f xs)) both.0 rest.0, rest.1)

pub joined-parts : (p : ℕ → Bool) (cs : List Concept) (d e : Concept) → has_joined p (joined_of cs (And d e)) ≡ true
    → (has_joined p (joined_of cs d) ≡ true) × (has_joined p (joined_of cs e) ≡ true)
joined-parts p cs d e h = both-joined p (λ a. number_of cs (Name a)) (names_joined d) (names_joined e)
    (ap (λ o. has_joined p (option_map (map (λ a. number_of cs (Name a))) o)) (sym (joined-And d e)) ∙ h)

pub joined-one : (p : ℕ → Bool) (cs : List Concept) (a : ℕ) → has_joined p (joined_of cs (Name a)) ≡ true → option_map_or p (number_of cs (Name a)) false ≡ true
joined-one p cs a h = (and_parts (option_map_or p (number_of cs (Name a)) false) true
    (ap (λ o. has_joined p (option_map (map (λ b. number_of cs (Name b))) o)) (sym (joined-Name a)) ∙ h)).0

-- no other concept is a conjunction of names
pub joined-only : (p : ℕ → Bool) (cs : List Concept) (c : Concept) → has_joined p (joined_of cs c) ≡ true → (c ≡ Top → ⊥) → ((a : ℕ) → c ≡ Name a → ⊥)
    → ((d e : Concept) → c ≡ And d e → ⊥) → ⊥
joined-only p cs c h top name both = by (out-Concept c) (of_form-out c)
  where
    none : (d : Concept) → d ≡ c → names_joined d ≡ None → ⊥
    none d e is = false≢true (sym (ap (λ o. has_joined p (option_map (map (λ a. number_of cs (Name a))) o)) (ap names_joined (sym e) ∙ is)) ∙ h)

    by : (y : Concept-F Concept) → of_form y ≡ c → ⊥
    by Concept-F.Top e = top (sym e)
    by (Concept-F.Name a) e = name a (sym e)
    by (Concept-F.And d f) e = both d f (sym e)
    by Concept-F.Bottom e = none Bottom e joined-Bottom
    by (Concept-F.Not d) e = none (Not d) e (joined-Not d)
    by (Concept-F.Or d f) e = none (Or d f) e (joined-Or d f)
    by (Concept-F.HasSome r d) e = none (HasSome r d) e (joined-HasSome r d)
    by (Concept-F.HasAll r d) e = none (HasAll r d) e (joined-HasAll r d)

-- the parts of a conjunction are smaller
pub count-left : (c d e x : Concept) → c ≡ And d e → x ≡ d → node_count x < node_count c
count-left c d e x is same = subst (λ y. node_count x < node_count y) (sym is) (subst (λ y. node_count y < node_count (And d e)) (sym same) (omega (arith, fold-And ℕ node_count_at d e)))

pub count-right : (c d e x : Concept) → c ≡ And d e → x ≡ e → node_count x < node_count c
count-right c d e x is same = subst (λ y. node_count x < node_count y) (sym is) (subst (λ y. node_count y < node_count (And d e)) (sym same) (omega (arith, fold-And ℕ node_count_at d e)))

-- a clash of a label is one of the closure
pub clash-everywhere : (v : GraphView) → are_distinct v.closure.concepts ≡ true → HasParts v.closure.concepts → (p : ℕ → Bool) (c : Clash) → is_clash (rules_at v) p c ≡ true → is_clash (rules_at v) (λ k. true) c ≡ true
clash-everywhere v distinct closed p way_out.Bottom h = bottom-clash v distinct closed (λ k. true) (clash-bottom v distinct closed p h).0 refl
clash-everywhere v distinct closed p (way_out.Name a) h =
    let both = clash-name v distinct closed p a h in name-clash v distinct closed (λ k. true) a both.0.0 both.1.0 refl refl
