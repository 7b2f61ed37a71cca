-- No element of a model has a closed label: by induction on a bound above the rank, for every element at once.
use Rattle.std.proofs.Common.{◌≡◌, ◌∙◌, ◌<◌, ◌≤◌, ◌==◌, ◌&&◌, sym, refl, ap, subst, ℕ, zero, suc, Bool, true, false, List, [], ◌∷◌, slice_get, Option, None, Some, inl, inr, arith}
use Rattle.std.specs.List.{list_any, list_all}
use Rattle.std.specs.Option.{option_map, option_map_or}
use Rattle.std.proofs.lemmas.Bool.{false≢true, or_cases, and_from, and_parts, eqb-true, ltb-true}
use Rattle.std.proofs.lemmas.List.Elements.{All-contains}
use Rattle.std.proofs.lemmas.Option.{same_Some, slice_get-map, slice_get_within}
use Rattle.dd_concept.specs.declared.concept.Concept.{Concept}
use Rattle.dd_concept.specs.declared.concept.Concept.TheOpen.{Concept-F}
use Rattle.dd_concept.specs.declared.concept.Concept.TheViews.{out-Concept}
use Rattle.dd_concept.specs.declared.concept.Concept.TheVariants.{Bottom, Name, Not, HasSome}
use Rattle.dd_concept.specs.Closed.{IsClosedFor}
use Rattle.dd_concept.specs.Forms.{is_name, is_name_form}
use Rattle.dd_concept.specs.Saturated.{clashes}
use Rattle.dd_concept.specs.Same.{has}
use Rattle.dd_concept.specs.Steps.{Choice}
use Rattle.dd_concept.specs.Steps as steps
use Rattle.dd_concept.specs.Successor.{is_passed}
use Rattle.dd_concept.proofs.SameIs.{of_form, of_form-out}
use Rattle.dd_concept.proofs.Sets.{has-head, has-tail}
use Rattle.dd_interp.specs.declared.interp.Interp.{Interp}
use Rattle.dd_interp.specs.Labels.{HasLabel}
use Rattle.dd_interp.specs.Meaning.{Holds}
use Rattle.dd_interp.proofs.Claims.{bottom-claim, clash-claim, successor-claim}
use Rattle.dd_interp.proofs.Forced.{sat-claim, choice-claim}
use Rattle.dd_set.specs.Words.{has as has_word}
use Rattle.dd_rules.specs.declared.shape.Shape.{Shape}
use Rattle.dd_rules.specs.declared.shape.Shape.TheVariants as shape
use Rattle.dd_rules.specs.declared.shape.Step.{Step}
use Rattle.dd_rules.specs.Numbers.{Rules, any_at, concepts_at, place_of, shape_of, shape_form, not_shape, has_clash, clashes_at, is_not, additions}
use Rattle.dd_rules.specs.Closure.{are_distinct}
use Rattle.dd_rules.proofs.Numbered.{any_at-some, any_at-from, get-place, place-get, at-within, at-place, has-get}
use Rattle.dd_rules.proofs.Lifting.{has_clash-same, steps-lift, successor-lifts}
use Rattle.dd_rules.proofs.LeastLifts.{least-lifts}
use Rattle.dd_rules.specs.declared.clash.Clash.{Clash}
use Rattle.dd_rules.specs.declared.clash.Clash.TheVariants as kind
use Rattle.dd_graph.specs.declared.node.Entry.{Entry}
use Rattle.dd_graph.specs.declared.node.Node.{Node}
use Rattle.dd_graph.specs.declared.node.Node.TheVariants as node
use Rattle.dd_rules.specs.Forced.{is_clash, is_bottom, is_name as is_name_shape}
use Rattle.dd_graph.specs.Right.{adding, is_some_shape, IsLeastAt, IsNode, rank_at, is_below, closes}
use Rattle.dd_graph.specs.View.{GraphView, IsGraph, IsAt, concepts_in, props_at, rank_of, rules_at}
use Rattle.dd_open.specs.NotBoth.{IsModelOf}
use Rattle.dd_open.proofs.Items.{get-map, contains-place, any-item, all-item}
use Rattle.dd_graph.proofs.Lists.{place_at as item}

there : {A : Type 0} (o : Option A) (t : A → Bool) → option_map_or t o false ≡ true → (x : A) × (o ≡ Some x) × (t x ≡ true)
there None t h = absurd (false≢true h)
there (Some x) t h = (x, refl, h)

-- a list all of whose concepts pass
each-passes : (t : Concept → Bool) (cs : List Concept) → ((c : Concept) → has cs c ≡ true → t c ≡ true) → list_all t cs ≡ true
each-passes t [] h = refl
each-passes t (c ∷ cs) h = and_from (t c) (list_all t cs) (h c (has-head c cs)) (each-passes t cs (λ d m. h d (has-tail d c cs m)))

-- a rank below a bound
rank-below : (k : ℕ) (o : Option ℕ) → is_below k o ≡ true → (j : ℕ) × (o ≡ Some j) × (j < k)
rank-below k None h = absurd (false≢true h)
rank-below k (Some j) h = (j, refl, ltb-true j k h)

-- ---- clashes

is-name-shape : (a : ℕ) (s : Shape) → is_name_shape a s ≡ true → s ≡ shape.Name a
is-name-shape a (shape.Name b) h = ap shape.Name (sym (eqb-true a b h))
is-name-shape a shape.Top h = absurd (false≢true h)
is-name-shape a shape.Bottom h = absurd (false≢true h)
is-name-shape a (shape.Not b) h = absurd (false≢true h)
is-name-shape a (shape.And b c) h = absurd (false≢true h)
is-name-shape a (shape.Or b c) h = absurd (false≢true h)
is-name-shape a (shape.HasSome b c) h = absurd (false≢true h)
is-name-shape a (shape.HasAll b c) h = absurd (false≢true h)

is-bottom-shape : (s : Shape) → is_bottom s ≡ true → s ≡ shape.Bottom
is-bottom-shape shape.Bottom h = refl
is-bottom-shape shape.Top h = absurd (false≢true h)
is-bottom-shape (shape.Name b) h = absurd (false≢true h)
is-bottom-shape (shape.Not b) h = absurd (false≢true h)
is-bottom-shape (shape.And b c) h = absurd (false≢true h)
is-bottom-shape (shape.Or b c) h = absurd (false≢true h)
is-bottom-shape (shape.HasSome b c) h = absurd (false≢true h)
is-bottom-shape (shape.HasAll b c) h = absurd (false≢true h)

shown : (r : Rules) (p : ℕ → Bool) (c : Clash) → is_clash r p c ≡ true → has_clash r p ≡ true
shown r p kind.Bottom h =
    let found = any_at-some (λ n s. p n && is_bottom s) r.shapes h in
    let both = and_parts (p found.0) (is_bottom found.1) found.3 in
    any_at-from (clashes_at r p) r.shapes found.0 found.1 found.2 (subst (λ s. clashes_at r p found.0 s ≡ true) (sym (is-bottom-shape found.1 both.1)) both.0)
shown r p (kind.Name a) h =
    let parts = and_parts (any_at (λ n s. p n && is_name_shape a s) r.shapes) (any_at (λ n s. p n && is_not a s) r.shapes) h in
    let found = any_at-some (λ n s. p n && is_name_shape a s) r.shapes parts.0 in
    let both = and_parts (p found.0) (is_name_shape a found.1) found.3 in
    any_at-from (clashes_at r p) r.shapes found.0 found.1 found.2 (subst (λ s. clashes_at r p found.0 s ≡ true) (sym (is-name-shape a found.1 both.1))
    (and_from (p found.0) (any_at (λ n s. p n && is_not a s) r.shapes) both.0 parts.1))

named : (t : Concept → Bool) (c : Concept) (y : Concept-F Concept) → of_form y ≡ c → is_name_form y ≡ true → (a : ℕ) × (Name a ≡ c)
named t c (Concept-F.Name a) e h = (a, e)
named t c Concept-F.Top e h = absurd (false≢true h)
named t c Concept-F.Bottom e h = absurd (false≢true h)
named t c (Concept-F.Not d) e h = absurd (false≢true h)
named t c (Concept-F.And d f) e h = absurd (false≢true h)
named t c (Concept-F.Or d f) e h = absurd (false≢true h)
named t c (Concept-F.HasSome b d) e h = absurd (false≢true h)
named t c (Concept-F.HasAll b d) e h = absurd (false≢true h)

some-has : (t : Concept → Bool) (l : List Concept) → list_any t l ≡ true → (c : Concept) × (has l c ≡ true) × (t c ≡ true)
some-has t [] h = absurd (false≢true h)
some-has t (d ∷ ds) h = elim (or_cases (t d) (list_any t ds) h) [
  | inl e ↦ (d, has-head d ds, e)
  | inr e ↦ let found = some-has t ds e in (found.0, has-tail found.0 d ds found.1, found.2)
]

-- no element has a label that clashes
clashing : (i : Interp) (x : ℕ) (l : List Concept) → clashes l ≡ true → HasLabel i x l → ⊥
clashing i x l h at_x = elim (or_cases (has l Bottom) (list_any (λ c. is_name c && has l (Not c)) l) h) [
  | inl b ↦ bottom-claim i x l b at_x
  | inr b ↦
      let found = some-has (λ c. is_name c && has l (Not c)) l b in
      let both = and_parts (is_name found.0) (has l (Not found.0)) found.2 in
      let name = named (has l) found.0 (out-Concept found.0) (of_form-out found.0) both.0 in
      clash-claim i x name.0 l (subst (λ c. has l c ≡ true) (sym name.1) found.1) (subst (λ c. has l (Not c) ≡ true) (sym name.1) both.1) at_x
]

-- ---- existential restrictions

restricted : (concepts : List Concept) (c : Concept) (y : Concept-F Concept) → of_form y ≡ c → is_some_shape (shape_form concepts y) ≡ true
    → (r : ℕ) × (d : Concept) × (HasSome r d ≡ c) × (shape_form concepts y ≡ shape.HasSome r (place_of concepts d))
restricted concepts c (Concept-F.HasSome r d) e h = (r, d, e, refl)
restricted concepts c Concept-F.Top e h = absurd (false≢true h)
restricted concepts c Concept-F.Bottom e h = absurd (false≢true h)
restricted concepts c (Concept-F.Name a) e h = absurd (false≢true h)
restricted concepts c (Concept-F.Not d) e h = absurd (never (out-Concept d) h)
  where
    never : (z : Concept-F Concept) → is_some_shape (not_shape z) ≡ true → ⊥
    never (Concept-F.Name a) k = false≢true k
    never _ k = false≢true k
restricted concepts c (Concept-F.And d f) e h = absurd (false≢true h)
restricted concepts c (Concept-F.Or d f) e h = absurd (false≢true h)
restricted concepts c (Concept-F.HasAll r d) e h = absurd (false≢true h)

module _ (v : GraphView) (graph : IsGraph v) (distinct : are_distinct v.closure.concepts ≡ true)
    (closed : IsClosedFor v.closure.axioms (props_at v) v.closure.concepts) (i : Interp) (model : IsModelOf v i) where
  abbrev concepts : List Concept
  concepts = v.closure.concepts

  -- a number of a label is that of a concept
  numbered : (id : ℕ) (l : List ℕ) → IsAt v id l → (n : ℕ) → has_word l n ≡ true → (c : Concept) × (slice_get concepts n ≡ Some c)
  numbered id l at n h = item concepts n ((graph.packed id l at).within n h)

  -- a concept of the closure is known by its number
  same-number : (c d : Concept) → has concepts c ≡ true → has concepts d ≡ true → place_of concepts c ≡ place_of concepts d → c ≡ d
  same-number c d h k e = same_Some c d (sym (get-place concepts c h) ∙ ap (slice_get concepts) e ∙ get-place concepts d k)

  -- the element has also what is added
  with-addition : (x : ℕ) (p : ℕ → Bool) (c : Concept) → has concepts c ≡ true → HasLabel i x (concepts_at concepts p) → Holds i x c
      → HasLabel i x (concepts_at concepts (adding (place_of concepts c) p))
  with-addition x p c inside at_x h d m =
      let q : ℕ → Bool = adding (place_of concepts c) p in
      let d_inside = at-within concepts q d m in
      elim (or_cases (place_of concepts d == place_of concepts c) (p (place_of concepts d)) (sym (at-place concepts q d distinct d_inside) ∙ m)) [
        | inl t ↦ subst (Holds i x) (same-number c d inside d_inside (sym (eqb-true (place_of concepts d) (place_of concepts c) t))) h
        | inr t ↦ at_x d (at-place concepts p d distinct d_inside ∙ t)
      ]

  -- an element with a label has the least saturated one
  with-least : (x : ℕ) → x < i.size → (p : ℕ → Bool) → ((n : ℕ) → p n ≡ true → (c : Concept) × (slice_get concepts n ≡ Some c)) → (t : ℕ) (m : List ℕ) → IsAt v t m
      → IsLeastAt (rules_at v) v.labels p t → HasLabel i x (concepts_at concepts p) → HasLabel i x (concepts_in v m)
  with-least x lt p below t m at least at_x =
      sat-claim i x v.closure.axioms model.axioms lt (concepts_at concepts p) (concepts_in v m)
      (least-lifts concepts v.closure.axioms (props_at v) distinct closed p (has_word m) below (least.least m at)) at_x

  NoElement : ℕ → Type 0
  NoElement bound = (id rank : ℕ) (l : List ℕ) → IsAt v id l → rank_of v id ≡ Some rank → rank < bound
      → (x : ℕ) → x < i.size → HasLabel i x (concepts_in v l) → ⊥

  -- a label whose node closes it, given those with smaller ranks
  module _ (bound : ℕ) (before : NoElement bound) (l : List ℕ) (below : (n : ℕ) → has_word l n ≡ true → (c : Concept) × (slice_get concepts n ≡ Some c))
      (x : ℕ) (lt : x < i.size) (at_x : HasLabel i x (concepts_in v l)) where
    -- a label with a smaller rank that is the least one with what the element has
    least-case : (rank : ℕ) → rank ≤ bound → (p : ℕ → Bool) → ((n : ℕ) → p n ≡ true → (c : Concept) × (slice_get concepts n ≡ Some c)) → HasLabel i x (concepts_at concepts p)
        → (t : ℕ) → IsLeastAt (rules_at v) v.labels p t → is_below rank (rank_at v.entries t) ≡ true → ⊥
    unfolding NoElement
    least-case rank le p inside has_p t least h =
        let m = item v.labels t least.there in
        let small = rank-below rank (rank_at v.entries t) h in
        before t small.0 m.0 m.1 small.1 (omega (arith, small.2, le)) x lt (with-least x lt p inside t m.0 m.1 least has_p)

    split-case : (rank : ℕ) → rank ≤ bound → (s : Step) (to : List ℕ) → IsNode (rules_at v) v.labels l (node.Split s to)
        → list_all (λ t. is_below rank (rank_at v.entries t)) to ≡ true → ⊥
    split-case rank le s to says h =
        let lifts = steps-lift concepts v.closure.axioms (props_at v) distinct closed (has_word l) s (says.calls s to refl) in
        let found = choice-claim i x v.closure.axioms model.axioms lt (props_at v) model.propagations (concepts_in v l) at_x lifts.choice lifts.calls.posed in
        let place = contains-place (steps.additions (concepts_in v l) lifts.choice) found.0 found.1 in
        let inside : has concepts found.0 ≡ true = All-contains (λ c. has concepts c ≡ true) (steps.additions (concepts_in v l) lifts.choice) found.0 lifts.inside found.1 in
        let added : slice_get (additions (rules_at v) s) place.0 ≡ Some (place_of concepts found.0) =
        ap (λ ns. slice_get ns place.0) lifts.adds ∙ slice_get-map (place_of concepts) (steps.additions (concepts_in v l) lifts.choice) place.0 ∙ ap (option_map (place_of concepts)) place.1 in
        let to_at = item to place.0 (omega (arith, says.as_many s to refl, slice_get_within (additions (rules_at v) s) place.0 (place_of concepts found.0) added)) in
        least-case rank le (adding (place_of concepts found.0) (has_word l)) (added-below found.0 inside)
        (with-addition x (has_word l) found.0 inside at_x found.2) to_at.0 (says.split s to refl place.0 (place_of concepts found.0) to_at.0 added to_at.1)
        (all-item (λ t. is_below rank (rank_at v.entries t)) to place.0 to_at.0 h to_at.1)
      where
        added-below : (c : Concept) → has concepts c ≡ true → (n : ℕ) → adding (place_of concepts c) (has_word l) n ≡ true → (d : Concept) × (slice_get concepts n ≡ Some d)
        added-below c inside n h = elim (or_cases (n == place_of concepts c) (has_word l n) h) [
          | inl t ↦ (c, ap (slice_get concepts) (eqb-true n (place_of concepts c) t) ∙ get-place concepts c inside)
          | inr t ↦ below n t
        ]

    done-case : (rank : ℕ) → rank ≤ bound → (to : List (ℕ × ℕ)) → IsNode (rules_at v) v.labels l (node.Done to)
        → list_any (λ p. is_below rank (rank_at v.entries p.1)) to ≡ true → ⊥
    unfolding NoElement
    done-case rank le to says h =
        let found = any-item (λ p. is_below rank (rank_at v.entries p.1)) to h in
        let n = found.1.0 in
        let t = found.1.1 in
        let follows = says.done to refl found.0 n t found.2 in
        let m = item v.labels t follows.there in
        let small = rank-below rank (rank_at v.entries t) found.3 in
        let both = and_parts (has_word l n) (option_map_or is_some_shape (slice_get (rules_at v).shapes n) false) follows.restricts in
        let shaped = there (slice_get (rules_at v).shapes n) is_some_shape both.1 in
        let whole = get-map (shape_of concepts) concepts n shaped.0 shaped.1 in
        let form = restricted concepts whole.0 (out-Concept whole.0) (of_form-out whole.0) (subst (λ s. is_some_shape s ≡ true) (sym whole.2) shaped.2) in
        let inside : has concepts (HasSome form.0 form.1) ≡ true = has-get concepts n (HasSome form.0 form.1) (whole.1 ∙ ap Some (sym form.2)) in
        let part = closed.parts.somes form.0 form.1 inside in
        let in_label : has (concepts_in v l) (HasSome form.0 form.1) ≡ true =
        at-place concepts (has_word l) (HasSome form.0 form.1) distinct inside
        ∙ ap (has_word l) (place-get concepts n (HasSome form.0 form.1) distinct (whole.1 ∙ ap Some (sym form.2))) ∙ both.0 in
        let lifted = successor-lifts concepts v.closure.axioms (props_at v) distinct closed (has_word l) form.0 form.1 part (has_word m.0)
        (follows.follows form.0 (place_of concepts form.1) m.0 (shaped.1 ∙ ap Some (sym whole.2 ∙ form.3)) m.1) in
        let passed = each-passes (is_passed (concepts_in v l) form.0 form.1) (concepts_in v m.0) (λ d h. sym (lifted d) ∙ h) in
        let along = successor-claim i x form.0 form.1 (concepts_in v l) (concepts_in v m.0) model.shaped in_label passed at_x in
        before t small.0 m.0 m.1 small.1 (omega (arith, small.2, le)) along.0 along.1 along.2

    node-case : (rank : ℕ) → rank ≤ bound → (n : Node) → IsNode (rules_at v) v.labels l n → closes v.entries rank n ≡ true → ⊥
    node-case rank le node.Fresh says h = false≢true h
    node-case rank le (node.Clash c) says h = clashing i x (concepts_in v l)
        (sym (has_clash-same concepts v.closure.axioms (props_at v) distinct closed (has_word l)) ∙ shown (rules_at v) (has_word l) c (says.clash c refl)) at_x
    node-case rank le (node.Larger t) says h = least-case rank le (has_word l) below at_x t (says.larger t refl).0 h
    node-case rank le (node.Split s to) says h = split-case rank le s to says h
    node-case rank le (node.Done to) says h = done-case rank le to says h

  ranked : (entries : List Entry) (id rank : ℕ) → rank_at entries id ≡ Some rank → (e : Entry) × (slice_get entries id ≡ Some e) × (e.rank ≡ Some rank)
  ranked entries id rank h = found (slice_get entries id) h
    where
      found : (o : Option Entry) → option_map_or (λ (e : Entry). e.rank) o None ≡ Some rank → (e : Entry) × (o ≡ Some e) × (e.rank ≡ Some rank)
      found None k = cc
      found (Some e) k = (e, refl, k)

  no-element : (bound : ℕ) → NoElement bound
  unfolding NoElement
  no-element zero id rank l at h lt x x_lt at_x = absurd (omega (arith, lt))
  no-element (suc bound) id rank l at h lt x x_lt at_x =
      let e = ranked v.entries id rank h in
      let right = graph.right.each id l e.0 at e.1 in
      node-case bound (no-element bound) l (numbered id l at) x x_lt at_x rank (omega (arith, lt)) e.0.node right.says (right.ranked rank e.2)

  pub closed_has_no_element : (id rank : ℕ) (l : List ℕ) → IsAt v id l → rank_of v id ≡ Some rank → (x : ℕ) → x < i.size → HasLabel i x (concepts_in v l) → ⊥
  unfolding NoElement
  closed_has_no_element id rank l at h = no-element (suc rank) id rank l at h (omega arith)
