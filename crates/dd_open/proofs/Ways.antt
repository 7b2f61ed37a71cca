-- A step on the way from an open label: to an open one that has all that it has, and more.
use Rattle.std.proofs.Common.{◌≡◌, ◌∙◌, ◌<◌, ◌-◌, ◌==◌, ◌||◌, sym, refl, ap, subst, ℕ, zero, suc, Bool, true, false, List, [], ◌∷◌, length, slice_get, Option, None, Some, inl, inr, arith}
use Rattle.std.specs.List.{list_any, find}
use Rattle.std.specs.Option.{option_map_or}
use Rattle.std.proofs.lemmas.Bool.{false≢true, or_left, or_right, cases_Bool, cases_eq, eq-eqb, cond-true, cond-false}
use Rattle.std.proofs.lemmas.List.Elements.{All-contains}
use Rattle.std.proofs.lemmas.Option.{same_Some, slice_get_within}
use Rattle.std.proofs.Math.Logic.{∥∥₁_map}
use Rattle.dd_concept.specs.declared.concept.Concept.{Concept}
use Rattle.dd_concept.specs.Closed.{IsClosedFor}
use Rattle.dd_concept.specs.Conjunction.{lacks_joined}
use Rattle.dd_concept.specs.Normal.{nnf_of, nnf_not_of}
use Rattle.dd_concept.specs.Same.{has as has_concept}
use Rattle.dd_concept.specs.Steps.{Choice, on_or, on_axiom, on_propagation, is_decided, additions}
use Rattle.dd_concept.proofs.Sets.{has-cases, contains-has}
use Rattle.dd_set.specs.Words.{has}
use Rattle.dd_set.specs.Sets.{count}
use Rattle.dd_set.proofs.Sets.{count-le, count-within, within-same_count}
use Rattle.dd_rules.specs.declared.shape.Step.{Step}
use Rattle.dd_rules.specs.Least.{Implies}
use Rattle.dd_rules.specs.Numbers.{Rules, concepts_at, place_of}
use Rattle.dd_rules.specs.Numbers as numbers
use Rattle.dd_rules.specs.Closure.{are_distinct}
use Rattle.dd_rules.proofs.Numbered.{at-place}
use Rattle.dd_rules.proofs.Lifting.{steps-lift}
use Rattle.dd_graph.specs.declared.node.Entry.{Entry}
use Rattle.dd_graph.specs.declared.node.Node.{Node}
use Rattle.dd_graph.specs.declared.node.Node.TheVariants as node
use Rattle.dd_graph.specs.Child.{open_child}
use Rattle.dd_graph.specs.Reached.{ReachedIn, IsReachedIn}
use Rattle.dd_graph.specs.Reached as reached_in
use Rattle.dd_graph.specs.Right.{IsNode, IsEntry, open_at, stays_open, width_of}
use Rattle.dd_graph.specs.View.{GraphView, IsGraph, IsAt, concepts_in, props_at, rules_at, is_open_at, node_at}
use Rattle.dd_open.specs.Models.{words_at}
use Rattle.dd_open.specs.Ways.{LeadsTo, IsOpenDone}
use Rattle.dd_open.proofs.Items.{get-map, contains-item}
use Rattle.dd_graph.proofs.Lists.{place_at as item}

none-passes : (t : Concept → Bool) (cs : List Concept) (c : Concept) → list_any t cs ≡ false → has_concept cs c ≡ true → t c ≡ false
none-passes t [] c f h = absurd (false≢true h)
none-passes t (d ∷ ds) c f h = elim (has-cases c d ds h) [
  | inl e ↦ subst (λ x. t x ≡ false) e (neither (t d) (list_any t ds) f).0
  | inr m ↦ none-passes t ds c (neither (t d) (list_any t ds) f).1 m
]
  where
    neither : (a b : Bool) → (a || b) ≡ false → (a ≡ false) × (b ≡ false)
    neither false b e = (refl, e)
    neither true b e = absurd (false≢true (sym e))

neither : (a b : Bool) → (a || b) ≡ false → (a ≡ false) × (b ≡ false)
neither false b e = (refl, e)
neither true b e = absurd (false≢true (sym e))

-- what an open decision adds is new to the label
fresh : (l : List Concept) (choice : Choice) → is_decided l choice ≡ false → (c : Concept) → has_concept (additions l choice) c ≡ true → has_concept l c ≡ false
fresh l (on_or d e) open_ c h =
    let both = neither (has_concept l d) (has_concept l e) open_ in
    elim (has-cases c d (e ∷ []) h) [
      | inl is ↦ subst (λ x. has_concept l x ≡ false) is both.0
      | inr m ↦ elim (has-cases c e [] m) [ inl is ↦ subst (λ x. has_concept l x ≡ false) is both.1 | inr k ↦ absurd (false≢true k) ]
    ]
fresh l (on_axiom a) open_ c h =
    let both = neither (has_concept l (nnf_of a.right) || has_concept l (nnf_not_of a.left)) (lacks_joined l a.left) open_ in
    let sides = neither (has_concept l (nnf_of a.right)) (has_concept l (nnf_not_of a.left)) both.0 in
    elim (has-cases c (nnf_not_of a.left) (nnf_of a.right ∷ []) h) [
      | inl is ↦ subst (λ x. has_concept l x ≡ false) is sides.1
      | inr m ↦ elim (has-cases c (nnf_of a.right) [] m) [ inl is ↦ subst (λ x. has_concept l x ≡ false) is sides.0 | inr k ↦ absurd (false≢true k) ]
    ]
fresh l (on_propagation p) open_ c h =
    let both = neither (has_concept l (nnf_not_of p.onto) || lacks_joined l p.onto) (list_any (has_concept l) p.into) open_ in
    let cut : List Concept = p.onto ∷ nnf_not_of p.onto ∷ [] in
    elim (cases_Bool (has_concept l p.onto)) [
      | inl t ↦ none-passes (has_concept l) p.into c both.1 (subst (λ cs. has_concept cs c ≡ true) (cond-true (has_concept l p.onto) p.into cut t) h)
      | inr f ↦ elim (has-cases c p.onto (nnf_not_of p.onto ∷ []) (subst (λ cs. has_concept cs c ≡ true) (cond-false (has_concept l p.onto) p.into cut f) h)) [
        | inl is ↦ subst (λ x. has_concept l x ≡ false) is f
        | inr m ↦ elim (has-cases c (nnf_not_of p.onto) [] m) [
          | inl is ↦ subst (λ x. has_concept l x ≡ false) is (neither (has_concept l (nnf_not_of p.onto)) (lacks_joined l p.onto) both.0).0
          | inr k ↦ absurd (false≢true k)
        ]
      ]
    ]

-- the first that passes
found : (t : ℕ → Bool) (xs : List ℕ) (x : ℕ) → find t xs ≡ Some x → (k : ℕ) × (slice_get xs k ≡ Some x) × (t x ≡ true)
found t [] x e = cc
found t (y ∷ ys) x e = elim (cases_Bool (t y)) [
  | inl h ↦ let is : y ≡ x = same_Some y x (sym (cond-true (t y) (Some y) (find t ys) h) ∙ e) in (zero, ap Some is, subst (λ z. t z ≡ true) is h)
  | inr h ↦ let rest = found t ys x (sym (cond-false (t y) (Some y) (find t ys) h) ∙ e) in (suc rest.0, rest.1, rest.2)
]

nothing-found : (t : ℕ → Bool) (xs : List ℕ) → find t xs ≡ None → list_any t xs ≡ true → ⊥
nothing-found t [] e h = false≢true h
nothing-found t (y ∷ ys) e h = elim (cases_Bool (t y)) [
  | inl k ↦ some_is (sym (cond-true (t y) (Some y) (find t ys) k) ∙ e)
  | inr k ↦ nothing-found t ys (sym (cond-false (t y) (Some y) (find t ys) k) ∙ e) (sym (ap (λ b. b || list_any t ys) k) ∙ h)
]
  where
    some_is : Some y ≡ None → ⊥
    some_is s = cc

module _ (v : GraphView) (graph : IsGraph v) (distinct : are_distinct v.closure.concepts ≡ true)
    (closed : IsClosedFor v.closure.axioms (props_at v) v.closure.concepts) where
  abbrev width : ℕ
  width = length v.closure.concepts

  -- a step: to an open position with a larger label
  pub record IsOn (a b : ℕ) : Type 0 where
    pub leads : LeadsTo v a b
    pub more : count leads.from width < count leads.to width
    pub open_next : is_open_at v b ≡ true

  count-more : (a b : ℕ) (l m : List ℕ) → IsAt v a l → IsAt v b m → Implies (has l) (has m) → (l ≡ m → ⊥) → count l width < count m width
  count-more a b l m at_a at_b within apart =
      let le = count-within l m width within in
      elim (cases_eq (count l width) (count m width)) [
        | inl e ↦ absurd (apart (within-same_count width l m (graph.packed a l at_a) (graph.packed b m at_b) within e))
        | inr ne ↦ omega (arith, le, ne)
      ]

  addition-new : (l : List ℕ) (s : Step) → numbers.calls_for (rules_at v) (has l) s ≡ true → (i c : ℕ) → slice_get (numbers.additions (rules_at v) s) i ≡ Some c → has l c ≡ false
  addition-new l s calls i c at =
      let lifts = steps-lift v.closure.concepts v.closure.axioms (props_at v) distinct closed (has l) s calls in
      let whole = get-map (place_of v.closure.concepts) (additions (concepts_in v l) lifts.choice) i c (sym (ap (λ ns. slice_get ns i) lifts.adds) ∙ at) in
      let member = contains-item (additions (concepts_in v l) lifts.choice) i whole.0 whole.1 in
      let inside : has_concept v.closure.concepts whole.0 ≡ true =
      All-contains (λ d. has_concept v.closure.concepts d ≡ true) (additions (concepts_in v l) lifts.choice) whole.0 lifts.inside member in
      ap (has l) (sym whole.2) ∙ sym (at-place v.closure.concepts (has l) whole.0 distinct inside)
      ∙ fresh (concepts_in v l) lifts.choice lifts.calls.undecided whole.0 (contains-has (additions (concepts_in v l) lifts.choice) whole.0 member)

  larger-on : (id t : ℕ) (l : List ℕ) → IsAt v id l → IsNode (rules_at v) v.labels l (node.Larger t) → open_at v.entries t ≡ true → IsOn id t
  larger-on id t l at says o =
      let least = (says.larger t refl).0 in
      let m = item v.labels t least.there in
      let sat = least.least m.0 m.1 in
      record {
        leads = record {
          from = l;
          to = m.0;
          is_from = at;
          is_to = m.1;
          within = sat.above;
          reached = λ goal h. ∥∥₁_map h (λ r. reached_in.saturated (has l) (has m.0) r sat);
        };
        more = count-more id t l m.0 at m.1 sat.above (λ e. (says.larger t refl).1 (m.1 ∙ ap Some (sym e)));
        open_next = o;
      }

  split-on : (id : ℕ) (l : List ℕ) → IsAt v id l → (s : Step) (to : List ℕ) → IsNode (rules_at v) v.labels l (node.Split s to) → (k t : ℕ) → slice_get to k ≡ Some t
      → open_at v.entries t ≡ true → IsOn id t
  split-on id l at s to says k t there o =
      let c = item (numbers.additions (rules_at v) s) k (omega (arith, says.as_many s to refl, slice_get_within to k t there)) in
      let least = says.split s to refl k c.0 t c.1 there in
      let m = item v.labels t least.there in
      let sat = least.least m.0 m.1 in
      let within : Implies (has l) (has m.0) = λ n h. sat.above n (or_right (n == c.0) (has l n) h) in
      let new : has l c.0 ≡ false = addition-new l s (says.calls s to refl) k c.0 c.1 in
      let has_it : has m.0 c.0 ≡ true = sat.above c.0 (or_left (c.0 == c.0) (has l c.0) (eq-eqb c.0 c.0 refl)) in
      record {
        leads = record {
          from = l;
          to = m.0;
          is_from = at;
          is_to = m.1;
          within = within;
          reached = λ goal h. ∥∥₁_map h (λ r. reached_in.step (has l) (has m.0) s k c.0 r (says.clear_split s to refl) (says.calls s to refl) c.1 sat);
        };
        more = count-more id t l m.0 at m.1 within (λ e. false≢true (sym new ∙ subst (λ w. has w c.0 ≡ true) (sym e) has_it));
        open_next = o;
      }

  next-on : (id t : ℕ) (l : List ℕ) (e : Entry) → IsAt v id l → IsEntry (rules_at v) v.labels v.entries l e → e.open ≡ true → (n : Node) → e.node ≡ n
      → open_child v.entries n ≡ Some t → IsOn id t
  next-on id t l e at right o node.Fresh is h = cc
  next-on id t l e at right o (node.Clash c) is h = cc
  next-on id t l e at right o (node.Larger u) is h =
      let same : u ≡ t = same_Some u t h in
      larger-on id t l at (subst (λ n. IsNode (rules_at v) v.labels l n) (is ∙ ap node.Larger same) right.says)
      (sym (ap (λ n. stays_open (width_of (rules_at v)) v.entries e.upto n) (is ∙ ap node.Larger same)) ∙ right.opened o)
  next-on id t l e at right o (node.Split s to) is h =
      let first = found (open_at v.entries) to t h in
      split-on id l at s to (subst (λ n. IsNode (rules_at v) v.labels l n) is right.says) first.0 t first.1 first.2
  next-on id t l e at right o (node.Done to) is h = cc

  opened-entry : (id : ℕ) → is_open_at v id ≡ true → (e : Entry) × (slice_get v.entries id ≡ Some e) × (e.open ≡ true)
  opened-entry id h = here (slice_get v.entries id) h
    where
      here : (o : Option Entry) → option_map_or (λ (e : Entry). e.open) o false ≡ true → (e : Entry) × (o ≡ Some e) × (e.open ≡ true)
      here None k = absurd (false≢true k)
      here (Some e) k = (e, refl, k)

  opened-label : (id : ℕ) → is_open_at v id ≡ true → (l : List ℕ) × IsAt v id l
  opened-label id h =
      let e = opened-entry id h in
      item v.labels id (omega (arith, graph.right.sized, slice_get_within v.entries id e.0 e.1))

  -- the child that keeps it open is a step on the way
  pub child-on : (id t : ℕ) → is_open_at v id ≡ true → Some t ≡ open_child v.entries (node_at v id) → IsOn id t
  child-on id t h child =
      let e = opened-entry id h in
      let l = opened-label id h in
      let same : e.0.node ≡ node_at v id = sym (ap (λ o. option_map_or (λ (x : Entry). x.node) o node.Fresh) e.1) in
      next-on id t l.0 e.0 l.1 (graph.right.each id l.0 e.0 l.1 e.1) e.2 (node_at v id) same (sym child)

  done-now : (id : ℕ) (e : Entry) → slice_get v.entries id ≡ Some e → e.open ≡ true → (l : List ℕ) → IsEntry (rules_at v) v.labels v.entries l e → (n : Node) → e.node ≡ n
      → open_child v.entries n ≡ None → IsOpenDone v id
  done-now id e is_e o l right node.Fresh is h =
      absurd (false≢true (sym (ap (stays_open (width_of (rules_at v)) v.entries e.upto) is) ∙ right.opened o))
  done-now id e is_e o l right (node.Clash c) is h =
      absurd (false≢true (sym (ap (stays_open (width_of (rules_at v)) v.entries e.upto) is) ∙ right.opened o))
  done-now id e is_e o l right (node.Larger t) is h = cc
  done-now id e is_e o l right (node.Split s to) is h =
      absurd (nothing-found (open_at v.entries) to h (sym (ap (stays_open (width_of (rules_at v)) v.entries e.upto) is) ∙ right.opened o))
  done-now id e is_e o l right (node.Done to) is h = record { entry = e; pairs = to; is_entry = is_e; open_now = o; is_done = is }

  -- where no child keeps it open all is done
  pub no-child : (id : ℕ) → is_open_at v id ≡ true → None ≡ open_child v.entries (node_at v id) → IsOpenDone v id
  no-child id h child =
      let e = opened-entry id h in
      let l = opened-label id h in
      let same : e.0.node ≡ node_at v id = sym (ap (λ o. option_map_or (λ (x : Entry). x.node) o node.Fresh) e.1) in
      done-now id e.0 e.1 e.2 l.0 (graph.right.each id l.0 e.0 l.1 e.1) (node_at v id) same (sym child)

  -- ways

  pub leads-itself : (id : ℕ) → is_open_at v id ≡ true → LeadsTo v id id
  leads-itself id h = let l = opened-label id h in record { from = l.0; to = l.0; is_from = l.1; is_to = l.1; within = λ n k. k; reached = λ goal r. r }

  pub leads-on : (a b c : ℕ) → LeadsTo v a b → IsOn b c → LeadsTo v a c
  leads-on a b c way on =
      let same : way.to ≡ on.leads.from = same_Some way.to on.leads.from (sym way.is_to ∙ on.leads.is_from) in
      record {
        from = way.from;
        to = on.leads.to;
        is_from = way.is_from;
        is_to = on.leads.is_to;
        within = λ n h. on.leads.within n (subst (λ w. has w n ≡ true) same (way.within n h));
        reached = λ goal h. on.leads.reached goal (subst (λ w. IsReachedIn (rules_at v) goal (has w)) same (way.reached goal h));
      }

  -- how many concepts are not yet in the label: it falls at each step
  pub on-measure : (a b : ℕ) → IsOn a b → width - count (words_at v b) width < width - count (words_at v a) width
  on-measure a b on =
      let from : words_at v a ≡ on.leads.from = ap (λ o. option_map_or (λ l. l) o []) on.leads.is_from in
      let to : words_at v b ≡ on.leads.to = ap (λ o. option_map_or (λ l. l) o []) on.leads.is_to in
      let most = count-le on.leads.to width in
      let more : width - count on.leads.to width < width - count on.leads.from width = omega (arith, on.more, most) in
      subst (λ w. width - count w width < width - count (words_at v a) width) (sym to) (subst (λ w. width - count on.leads.to width < width - count w width) (sym from) more)

  pub on-within : (a b : ℕ) → IsOn a b → b < length v.labels
  on-within a b on = slice_get_within v.labels b on.leads.to on.leads.is_to
