-- A label that is reached in numbers is reached in concepts.
use Rattle.std.proofs.Common.{◌≡◌, ◌∙◌, ◌<◌, ◌==◌, ◌&&◌, ◌||◌, sym, refl, ap, subst, ℕ, zero, suc, Bool, true, false, List, [], ◌∷◌, map, All, Contains, length, get_or, slice_get, Option, None, Some, inl, inr, arith, nat_lt}
use Rattle.std.specs.Option.{option_map, option_map_or}
use Rattle.std.proofs.lemmas.Bool.{false≢true, or_cases, or_left, or_right, and_parts, eqb-true, eq-eqb, ltb-true, lt-ltb}
use Rattle.std.proofs.lemmas.List.Elements.{All-contains}
use Rattle.std.proofs.lemmas.Option.{same_Some, slice_get-map, slice_get_within, get_or_from_slice_get}
use Rattle.std.proofs.Math.Logic.{∥∥₁_map}
use Rattle.dd_concept.specs.declared.concept.Axiom.{Axiom}
use Rattle.dd_concept.specs.declared.concept.Concept.{Concept}
use Rattle.dd_concept.specs.declared.concept.Concept.TheOpen.{Concept-F}
use Rattle.dd_concept.specs.declared.concept.Concept.TheViews.{out-Concept}
use Rattle.dd_concept.specs.declared.concept.Concept.TheVariants.{And, HasSome, HasAll}
use Rattle.dd_concept.specs.Closed.{HasSides, IsClosedFor}
use Rattle.dd_concept.specs.Normal.{nnf_of}
use Rattle.dd_concept.specs.Propagation.{Propagation}
use Rattle.dd_concept.specs.Reached.{Reached, IsReached, IsWith}
use Rattle.dd_concept.specs.Reached as concepts_reached
use Rattle.dd_concept.specs.Same.{is_same, has, SameSet}
use Rattle.dd_concept.specs.Saturated as saturation
use Rattle.dd_concept.specs.Saturated.{IsSaturated, clashes}
use Rattle.dd_concept.specs.Steps as steps
use Rattle.dd_concept.specs.Successor as following
use Rattle.dd_concept.proofs.SameIs.{of_form, of_form-out, is_same-is, is-is_same}
use Rattle.dd_concept.proofs.Sets.{same_tests}
use Rattle.dd_rules.specs.Closure.{are_distinct}
use Rattle.dd_rules.specs.Least.{Implies, IsLeastSaturated}
use Rattle.dd_rules.specs.Numbers.{Rules, any_at, concepts_at, place_of, shape_of, shape_form, not_shape, rules_of, is_saturated, has_clash, calls_for, additions, is_all, IsSuccessor}
use Rattle.dd_rules.specs.declared.shape.Shape.{Shape}
use Rattle.dd_rules.specs.declared.shape.Shape.TheVariants as shape
use Rattle.dd_rules.specs.declared.shape.Step.{Step}
use Rattle.dd_rules.proofs.Numbered.{any_at-some, get-place, place-get, at-within, at-place, has-get}
use Rattle.dd_rules.proofs.Lifting.{is_saturated-decides, has_clash-same, steps-lift, successor-lifts}
use Rattle.dd_rules.proofs.LeastLifts.{least-lifts}
use Rattle.dd_graph.specs.Right.{adding, IsClear}
use Rattle.dd_graph.specs.Reached.{ReachedIn, IsReachedIn}
use Rattle.dd_graph.specs.Reached as reached_in
use Rattle.dd_graph.proofs.Lists.{place_at}

get-map : {A B : Type 0} (f : A → B) (xs : List A) (n : ℕ) (y : B) → slice_get (map f xs) n ≡ Some y → (x : A) × (slice_get xs n ≡ Some x) × (f x ≡ y)
get-map f [] n y e = cc
get-map f (x ∷ xs) zero y e = (x, refl, same_Some (f x) y e)
get-map f (x ∷ xs) (suc n) y e = get-map f xs n y e

contains-get : {A : Type 0} (xs : List A) (k : ℕ) (x : A) → slice_get xs k ≡ Some x → Contains xs x
contains-get xs k x e = (k, slice_get_within xs k x e, get_or_from_slice_get xs k x x e)

-- ---- the concept of an existential or a universal restriction, by its form

not_some : (r c : ℕ) (z : Concept-F Concept) → not_shape z ≡ shape.HasSome r c → ⊥
not_some r c (Concept-F.Name a) e = cc
not_some r c _ e = cc

pub some-form : (concepts : List Concept) (c : Concept) (y : Concept-F Concept) → of_form y ≡ c → (r n : ℕ) → shape_form concepts y ≡ shape.HasSome r n
    → (d : Concept) × (HasSome r d ≡ c) × (n ≡ place_of concepts d)
some-form concepts c (Concept-F.HasSome s d) e r n h = (d, ap (λ t. HasSome t d) (role s (place_of concepts d) r n h) ∙ e, part s (place_of concepts d) r n h)
  where
    role : (s m r n : ℕ) → shape.HasSome s m ≡ shape.HasSome r n → r ≡ s
    role s m r n h = cc

    part : (s m r n : ℕ) → shape.HasSome s m ≡ shape.HasSome r n → n ≡ m
    part s m r n h = cc
some-form concepts c Concept-F.Top e r n h = cc
some-form concepts c Concept-F.Bottom e r n h = cc
some-form concepts c (Concept-F.Name a) e r n h = cc
some-form concepts c (Concept-F.Not d) e r n h = absurd (not_some r n (out-Concept d) h)
some-form concepts c (Concept-F.And d f) e r n h = cc
some-form concepts c (Concept-F.Or d f) e r n h = cc
some-form concepts c (Concept-F.HasAll s d) e r n h = cc

not_all : (r k : ℕ) (z : Concept-F Concept) → is_all r k (not_shape z) ≡ true → ⊥
not_all r k (Concept-F.Name a) e = false≢true e
not_all r k _ e = false≢true e

all-form : (concepts : List Concept) (c : Concept) (y : Concept-F Concept) → of_form y ≡ c → (r k : ℕ) → is_all r k (shape_form concepts y) ≡ true
    → (s : ℕ) × (d : Concept) × (HasAll s d ≡ c) × (k ≡ place_of concepts d)
all-form concepts c (Concept-F.HasAll s d) e r k h = (s, d, e, eqb-true k (place_of concepts d) (and_parts (r == s) (k == place_of concepts d) h).1)
all-form concepts c Concept-F.Top e r k h = absurd (false≢true h)
all-form concepts c Concept-F.Bottom e r k h = absurd (false≢true h)
all-form concepts c (Concept-F.Name a) e r k h = absurd (false≢true h)
all-form concepts c (Concept-F.Not d) e r k h = absurd (not_all r k (out-Concept d) h)
all-form concepts c (Concept-F.And d f) e r k h = absurd (false≢true h)
all-form concepts c (Concept-F.Or d f) e r k h = absurd (false≢true h)
all-form concepts c (Concept-F.HasSome s d) e r k h = absurd (false≢true h)

module _ (concepts : List Concept) (axioms : List Axiom) (props : List Propagation) (distinct : are_distinct concepts ≡ true) (closed : IsClosedFor axioms props concepts) where
  abbrev r : Rules
  r = rules_of concepts axioms props

  -- the label has numbers of concepts alone
  abbrev pub AreNumbers : (ℕ → Bool) → Type 0
  AreNumbers p = (n : ℕ) → p n ≡ true → (c : Concept) × (slice_get concepts n ≡ Some c)

  -- all numbers of concepts are a saturated label
  everything : ℕ → Bool
  everything n = nat_lt n (length concepts)

  in-everything : (c : Concept) → has concepts c ≡ true → has (concepts_at concepts everything) c ≡ true
  unfolding everything
  in-everything c h = at-place concepts everything c distinct h ∙ lt-ltb (place_of concepts c) (length concepts) (slice_get_within concepts (place_of concepts c) c (get-place concepts c h))

  everything-saturated : is_saturated r everything ≡ true
  everything-saturated = (is_saturated-decides concepts axioms props distinct closed everything).1 (record {
    ands = λ c d h.
        let both = closed.parts.ands c d (at-within concepts everything (And c d) h) in
        (in-everything c both.0, in-everything d both.1);
    rights = λ k d lt h. in-everything (nnf_of _) (closed.sides k d lt).right;
  })

  least-numbers : (p q : ℕ → Bool) → AreNumbers p → IsLeastSaturated r p q → AreNumbers q
  unfolding everything
  least-numbers p q below h n t = place_at concepts n (ltb-true n (length concepts) (h.least everything
      (λ m k. let at = below m k in lt-ltb m (length concepts) (slice_get_within concepts m at.0 at.1)) everything-saturated n t))

  adding-numbers : (p : ℕ → Bool) (c : Concept) → AreNumbers p → has concepts c ≡ true → AreNumbers (adding (place_of concepts c) p)
  adding-numbers p c below inside n h = elim (or_cases (n == place_of concepts c) (p n) h) [
    | inl t ↦ (c, ap (slice_get concepts) (eqb-true n (place_of concepts c) t) ∙ get-place concepts c inside)
    | inr t ↦ below n t
  ]

  successor-numbers : (p q : ℕ → Bool) (role : ℕ) (c : Concept) → has concepts c ≡ true → IsSuccessor r p role (place_of concepts c) q → AreNumbers q
  successor-numbers p q role c inside s n h = elim (or_cases (n == place_of concepts c) (any_at (λ m sh. p m && is_all role n sh) r.shapes) (sym (s n) ∙ h)) [
    | inl t ↦ (c, ap (slice_get concepts) (eqb-true n (place_of concepts c) t) ∙ get-place concepts c inside)
    | inr t ↦
        let found = any_at-some (λ m sh. p m && is_all role n sh) r.shapes t in
        let whole = get-map (shape_of concepts) concepts found.0 found.1 found.2 in
        let all = all-form concepts whole.0 (out-Concept whole.0) (of_form-out whole.0) role n
        (subst (λ sh. is_all role n sh ≡ true) (sym whole.2) (and_parts (p found.0) (is_all role n found.1) found.3).1) in
        let part = closed.parts.alls all.0 all.1 (has-get concepts found.0 (HasAll all.0 all.1) (whole.1 ∙ ap Some (sym all.2))) in
        (all.1, ap (slice_get concepts) all.3 ∙ get-place concepts all.1 part)
  ]

  -- a label with a number more is one with a concept more
  abbrev more : (ℕ → Bool) → Concept → ℕ → Bool
  more p c = adding (place_of concepts c) p

  pub adding-lifts : (p : ℕ → Bool) (c : Concept) → has concepts c ≡ true → IsWith (concepts_at concepts p) c (concepts_at concepts (more p c))
  adding-lifts p c inside d = same_tests (has (concepts_at concepts (more p c)) d) (is_same c d || has (concepts_at concepts p) d) down up
    where
      down : has (concepts_at concepts (more p c)) d ≡ true → (is_same c d || has (concepts_at concepts p) d) ≡ true
      down h =
          let within = at-within concepts (more p c) d h in
          elim (or_cases (place_of concepts d == place_of concepts c) (p (place_of concepts d)) (sym (at-place concepts (more p c) d distinct within) ∙ h)) [
            | inl t ↦ or_left (is_same c d) (has (concepts_at concepts p) d) (is-is_same c d (same_Some c d (sym (get-place concepts c inside)
                ∙ ap (slice_get concepts) (sym (eqb-true (place_of concepts d) (place_of concepts c) t)) ∙ get-place concepts d within)))
            | inr t ↦ or_right (is_same c d) (has (concepts_at concepts p) d) (at-place concepts p d distinct within ∙ t)
          ]

      up : (is_same c d || has (concepts_at concepts p) d) ≡ true → has (concepts_at concepts (more p c)) d ≡ true
      up h = elim (or_cases (is_same c d) (has (concepts_at concepts p) d) h) [
        | inl t ↦ subst (λ x. has (concepts_at concepts (more p c)) x ≡ true) (is_same-is c d t)
            (at-place concepts (more p c) c distinct inside ∙ or_left (place_of concepts c == place_of concepts c) (p (place_of concepts c)) (eq-eqb (place_of concepts c) (place_of concepts c) refl))
        | inr t ↦
            let within = at-within concepts p d t in
            at-place concepts (more p c) d distinct within ∙ or_right (place_of concepts d == place_of concepts c) (p (place_of concepts d)) (sym (at-place concepts p d distinct within) ∙ t)
      ]

  pub clear-lifts : (p : ℕ → Bool) → IsClear r p → saturation.IsClear axioms (concepts_at concepts p)
  clear-lifts p clear = record {
    saturated = (is_saturated-decides concepts axioms props distinct closed p).0 clear.saturated;
    no_clash = sym (has_clash-same concepts axioms props distinct closed p) ∙ clear.no_clash;
  }

  abbrev Goals : (ℕ → Bool) → List (List Concept)
  Goals goal = concepts_at concepts goal ∷ []

  step-lifts : (goal p q : ℕ → Bool) (s : Step) (i c : ℕ) → AreNumbers p → Reached axioms props (Goals goal) (concepts_at concepts p) → IsClear r p → calls_for r p s ≡ true
      → slice_get (additions r s) i ≡ Some c → IsLeastSaturated r (adding c p) q → Reached axioms props (Goals goal) (concepts_at concepts q) × AreNumbers q
  step-lifts goal p q s i c below reached clear calls at least =
      let lifts = steps-lift concepts axioms props distinct closed p s calls in
      let found = get-map (place_of concepts) (steps.additions (concepts_at concepts p) lifts.choice) i c (sym (ap (λ ns. slice_get ns i) lifts.adds) ∙ at) in
      let member = contains-get (steps.additions (concepts_at concepts p) lifts.choice) i found.0 found.1 in
      let inside : has concepts found.0 ≡ true = All-contains (λ d. has concepts d ≡ true) (steps.additions (concepts_at concepts p) lifts.choice) found.0 lifts.inside member in
      let whole : IsLeastSaturated r (adding (place_of concepts found.0) p) q = subst (λ n. IsLeastSaturated r (adding n p) q) (sym found.2) least in
      let numbers = adding-numbers p found.0 below inside in (
        concepts_reached.saturated (concepts_at concepts (adding (place_of concepts found.0) p)) (concepts_at concepts q)
            (concepts_reached.step (concepts_at concepts p) (concepts_at concepts (adding (place_of concepts found.0) p)) lifts.choice found.0 reached (clear-lifts p clear) lifts.calls member
            (adding-lifts p found.0 inside))
            (least-lifts concepts axioms props distinct closed (adding (place_of concepts found.0) p) q numbers whole),
        least-numbers (adding (place_of concepts found.0) p) q numbers whole,
      )

  follow-lifts : (goal p q : ℕ → Bool) (n role c : ℕ) → AreNumbers p → Reached axioms props (Goals goal) (concepts_at concepts p) → IsClear r p → p n ≡ true
      → slice_get r.shapes n ≡ Some (shape.HasSome role c) → IsSuccessor r p role c q → Reached axioms props (Goals goal) (concepts_at concepts q) × AreNumbers q
  follow-lifts goal p q n role c below reached clear there at s =
      let whole = get-map (shape_of concepts) concepts n (shape.HasSome role c) at in
      let form = some-form concepts whole.0 (out-Concept whole.0) (of_form-out whole.0) role c whole.2 in
      let is_at : slice_get concepts n ≡ Some (HasSome role form.0) = whole.1 ∙ ap Some (sym form.1) in
      let inside = has-get concepts n (HasSome role form.0) is_at in
      let part = closed.parts.somes role form.0 inside in
      let in_label : has (concepts_at concepts p) (HasSome role form.0) ≡ true =
      at-place concepts p (HasSome role form.0) distinct inside ∙ ap p (place-get concepts n (HasSome role form.0) distinct is_at) ∙ there in
      let moved : IsSuccessor r p role (place_of concepts form.0) q = subst (λ m. IsSuccessor r p role m q) form.2 s in (
        concepts_reached.successor (concepts_at concepts p) (concepts_at concepts q) role form.0 reached (clear-lifts p clear) in_label
            (successor-lifts concepts axioms props distinct closed p role form.0 part q moved),
        successor-numbers p q role form.0 part moved,
      )

  -- what is reached in numbers is reached in concepts, and has numbers of concepts alone
  lifts : (goal p : ℕ → Bool) → AreNumbers goal → ReachedIn r goal p → Reached axioms props (Goals goal) (concepts_at concepts p) × AreNumbers p
  lifts goal p below reached_in.start = (
    concepts_reached.goal (concepts_at concepts goal) (concepts_at concepts goal) (zero, omega arith, refl) (λ c. refl),
    below,
  )
  lifts goal p below (reached_in.saturated q _ before least) =
      let had = lifts goal q below before in (
        concepts_reached.saturated (concepts_at concepts q) (concepts_at concepts p) had.0 (least-lifts concepts axioms props distinct closed q p had.1 least),
        least-numbers q p had.1 least,
      )
  lifts goal p below (reached_in.step q _ s i c before clear calls at least) =
      let had = lifts goal q below before in step-lifts goal q p s i c had.1 had.0 clear calls at least
  lifts goal p below (reached_in.successor q _ n role c before clear there at s) =
      let had = lifts goal q below before in follow-lifts goal q p n role c had.1 had.0 clear there at s

  pub reached-lifts : (goal p : ℕ → Bool) → AreNumbers goal → IsReachedIn r goal p → IsReached axioms props (Goals goal) (concepts_at concepts p)
  reached-lifts goal p below h = ∥∥₁_map h (λ reached. (lifts goal p below reached).0)
