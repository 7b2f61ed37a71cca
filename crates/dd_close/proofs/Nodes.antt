-- The lines of the labels of a graph.
use Rattle.std.proofs.Common.{◌≡◌, ◌∙◌, ◌<◌, ◌≤◌, ◌+◌, ◌++◌, ◌||◌, ◌&&◌, ◌==◌, sym, refl, ap, subst, ℕ, zero, suc, Bool, true, false, not, nat_lt, List, [], ◌∷◌, All, length, map, slice_get, get_or, None, Some, Option, inl, inr, arith}
use Rattle.std.specs.List.{list_any, list_all}
use Rattle.std.specs.Option.{option_map, option_map_or}
use Rattle.std.proofs.lemmas.Bool.{false≢true, or_cases, or_left, or_right, and_from, and_parts, eqb-true, eq-eqb, cases_lt, cases_Bool, false_from_ne_true, lt-ltb, ltb-true}
use Rattle.std.proofs.lemmas.Option.{same_Some, get_or_from_slice_get}
use Rattle.std.proofs.lemmas.List.{length-append}
use Rattle.dd_concept.specs.declared.concept.Concept.{Concept}
use Rattle.dd_concept.specs.Closed.{IsClosedFor}
use Rattle.dd_concept.specs.Same.{has as has_concept}
use Rattle.dd_concept.specs.Steps as steps
use Rattle.dd_graph.specs.Right.{IsLeastAt, IsNode, IsEntry, IsSuccessorAt, adding, closes, is_below, rank_at}
use Rattle.dd_graph.specs.View.{GraphView, IsAt, IsGraph, node_at, props_at, rank_of, rules_at}
use Rattle.dd_graph.specs.declared.node.Entry.{Entry}
use Rattle.dd_graph.specs.declared.node.Node.{Node}
use Rattle.dd_graph.specs.declared.node.Node.TheVariants as node
use Rattle.dd_graph.proofs.Lists.{get_push}
use Rattle.dd_rules.specs.Closure.{are_distinct}
use Rattle.dd_rules.specs.Least.{Implies}
use Rattle.dd_rules.specs.Numbers.{PropNumbers, Rules, additions, any_at, calls_for, decides_axiom, decides_prop, is_all, is_open_or, place_of}
use Rattle.dd_rules.specs.declared.shape.Shape.{Shape}
use Rattle.dd_rules.specs.declared.shape.Shape.TheVariants as shape
use Rattle.dd_rules.specs.declared.shape.Step.{Step}
use Rattle.dd_rules.specs.declared.shape.Step.TheVariants as way
use Rattle.dd_rules.specs.declared.tables.AxiomNumbers.{AxiomNumbers}
use Rattle.dd_rules.proofs.Lifting.{steps-lift, there}
use Rattle.dd_rules.proofs.Numbered.{any_at-some, any_at-from}
use Rattle.dd_set.specs.Words.{has, IsNext}
use Rattle.dd_close.specs.Drafts.{Adds, Cites, IsBook, IsBySuccessor, IsLine, Makes, has_premise, is_or_shape, is_step, passes}
use Rattle.dd_close.specs.Logs.{Reaches}
use Rattle.dd_close.specs.Nodes.{AreLines, HasLine, HaveLines, Splits, is_wanted, wants}
use Rattle.dd_close.specs.declared.draft.Book.{Book}
use Rattle.dd_close.proofs.Books.{adds-trans, cites-more, kept_length, line-kept, line-wider}
use Rattle.dd_close.proofs.Lefts.{place-low}

-- ---- lines of labels

pub has-line-kept : (v : GraphView) (old new : Book) (lines : List ℕ) (t : ℕ) → Adds v old new → HasLine v old lines t → HasLine v new lines t
has-line-kept v old new lines t adds h = record { line = h.line; label = h.label; given = h.given; at = h.at; within = line-kept old new (has h.label) h.line adds.kept h.within }

-- the line of the least saturated label with a set reaches the set
pub least-reaches : (v : GraphView) (b : Book) (lines : List ℕ) (p : ℕ → Bool) (t line : ℕ) → IsLeastAt (rules_at v) v.labels p t → (h : HasLine v b lines t)
    → h.line ≡ line → Reaches (rules_at v) b line p
least-reaches v b lines p t line least h is other above saturated =
    subst (IsLine b other) is (line-wider b (has h.label) other h.line ((least.least h.label h.at).least other above saturated) h.within)

-- ---- steps

module _ (v : GraphView) (graph : IsGraph v) (distinct : are_distinct v.closure.concepts ≡ true) (closed : IsClosedFor v.closure.axioms (props_at v) v.closure.concepts)
    (p : ℕ → Bool) (s : Step) (calls : calls_for (rules_at v) p s ≡ true) where
  -- what a step adds is in the closure
  pub addition-low : (i n : ℕ) → slice_get (additions (rules_at v) s) i ≡ Some n → n < length v.closure.concepts
  addition-low i n e =
      let lifts = steps-lift v.closure.concepts v.closure.axioms (props_at v) distinct closed p s calls in
      by (steps.additions _ lifts.choice) i lifts.inside (ap (λ ns. slice_get ns i) (sym lifts.adds) ∙ e)
    where
      by : (cs : List Concept) (i : ℕ) → All (λ c. has_concept v.closure.concepts c ≡ true) cs → slice_get (map (place_of v.closure.concepts) cs) i ≡ Some n → n < length v.closure.concepts
      by [] i all e = cc
      by (c ∷ cs) zero all e = subst (λ m. m < length v.closure.concepts) (same_Some (place_of v.closure.concepts c) n e) (place-low v.closure.concepts c (all zero c (omega arith)))
      by (c ∷ cs) (suc i) all e = by cs i (λ k d lt. all (suc k) d (omega (arith, lt))) e

-- a step that is called for is there, and the label has its premise
pub calls-step : (r : Rules) (p : ℕ → Bool) (s : Step) → calls_for r p s ≡ true → (is_step r s ≡ true) × (has_premise r p s ≡ true)
calls-step r p (way.And n) h = absurd (false≢true h)
calls-step r p (way.Or n) h =
    let found = there (slice_get r.shapes n) (is_open_or p n) h in
    let parts = by found.0 found.2 in
    (ap (λ o. option_map_or is_or_shape o false) found.1 ∙ parts.0, parts.1)
  where
    by : (sh : Shape) → is_open_or p n sh ≡ true → (is_or_shape sh ≡ true) × (p n ≡ true)
    by (shape.Or a b) e = (refl, (and_parts (p n) (not (p a || p b)) e).0)
    by shape.Top e = absurd (false≢true e)
    by shape.Bottom e = absurd (false≢true e)
    by (shape.Name a) e = absurd (false≢true e)
    by (shape.Not a) e = absurd (false≢true e)
    by (shape.And a b) e = absurd (false≢true e)
    by (shape.HasSome a b) e = absurd (false≢true e)
    by (shape.HasAll a b) e = absurd (false≢true e)
calls-step r p (way.Axiom k) h =
    let found = there (slice_get r.axioms k) (λ a. not (decides_axiom p a)) h in
    (ap (λ (o : Option AxiomNumbers). option_map_or (λ a. true) o false) found.1, refl)
calls-step r p (way.Cut n) h =
    let parts = and_parts (not (p n)) (list_any (λ (t : PropNumbers). (t.onto == n) && not (decides_prop p t)) r.props) h in
    (weaker r.props parts.1, refl)
  where
    weaker : (xs : List PropNumbers) → list_any (λ (t : PropNumbers). (t.onto == n) && not (decides_prop p t)) xs ≡ true → list_any (λ (t : PropNumbers). t.onto == n) xs ≡ true
    weaker [] e = e
    weaker (x ∷ xs) e = elim (or_cases ((x.onto == n) && not (decides_prop p x)) (list_any (λ (t : PropNumbers). (t.onto == n) && not (decides_prop p t)) xs) e) [
      | inl a ↦ or_left (x.onto == n) (list_any (λ (t : PropNumbers). t.onto == n) xs) (and_parts (x.onto == n) (not (decides_prop p x)) a).0
      | inr b ↦ or_right (x.onto == n) (list_any (λ (t : PropNumbers). t.onto == n) xs) (weaker xs b)
    ]
calls-step r p (way.Bridge k) h =
    let found = there (slice_get r.props k) (λ (t : PropNumbers). p t.onto && not (decides_prop p t)) h in (
      ap (λ (o : Option PropNumbers). option_map_or (λ t. true) o false) found.1,
      ap (λ (o : Option PropNumbers). option_map_or p (option_map (λ (t : PropNumbers). t.onto) o) true) found.1 ∙ (and_parts (p found.0.onto) (not (decides_prop p found.0)) found.2).0,
    )

-- ---- the lines of a step's additions

pub splits-start : (v : GraphView) (b : Book) (p : ℕ → Bool) (s : Step) → IsBook v b → Splits v b b p s [] 0
splits-start v b p s h = record { adds = record { book = h; kept = λ n l e. e }; many = refl; cited = record { each = λ i c m e f. cc } }

pub splits-next : (v : GraphView) (a b c : Book) (p : ℕ → Bool) (s : Step) (cites more : List ℕ) (i n line : ℕ) → Splits v a b p s cites i
    → slice_get (additions (rules_at v) s) i ≡ Some n → Makes v b c (adding n p) line → more ≡ cites ++ line ∷ [] → Splits v a c p s more (i + 1)
splits-next v a b c p s cites more i n line h at made longer = record {
  adds = adds-trans v a b c h.adds made.adds;
  many = ap length longer ∙ length-append cites (line ∷ []) ∙ ap (λ k. k + 1) h.many;
  cited = record {
    each = λ j k m e f.
        get_push (λ j m. (k : ℕ) → slice_get (additions (rules_at v) s) j ≡ Some k → Cites c.table.list (length c.table.list) m (adding k p)) cites line
        (λ j m f k e. cites-more b.table.list c.table.list (length b.table.list) (length c.table.list) m (adding k p) made.adds.kept (kept_length b.table.list c.table.list made.adds.kept) (h.cited.each j k m e f))
        (λ k e. subst (λ d. Cites c.table.list (length c.table.list) line (adding d p)) (same_Some n k (sym at ∙ ap (slice_get (additions (rules_at v) s)) (sym h.many) ∙ e)) made.line)
        j m (ap (λ ms. slice_get ms j) (sym longer) ∙ f) k e;
  };
}

-- ---- along a role

module _ (r : Rules) (set label : List ℕ) (role part : ℕ) where
  abbrev takes : ℕ → Bool
  takes k = has set k && wants r role part label k

  -- before a place
  abbrev IsPassed : ℕ → (ℕ → Bool) → Type 0
  IsPassed from p = (k : ℕ) → p k ≡ (nat_lt k from && takes k)

module _ (r : Rules) (p new : ℕ → Bool) (labels : List (List ℕ)) (bound : ℕ) (label : List ℕ) (role part n line : ℕ) (shape_is : slice_get r.shapes n ≡ Some (shape.HasSome role part))
    (in_set : p n ≡ true) (there_is : slice_get labels line ≡ Some label) (cited : Cites labels bound line (passes r p role part))
    (with_it : (k : ℕ) → new k ≡ ((k == n) || (p k && wants r role part label k))) where
  successor-within : Implies new p
  successor-within k e = elim (or_cases (k == n) (p k && wants r role part label k) (sym (with_it k) ∙ e)) [
    | inl is ↦ subst (λ m. p m ≡ true) (sym (eqb-true k n is)) in_set
    | inr both ↦ (and_parts (p k) (wants r role part label k) both).0
  ]

  is-all-wanted : (e : ℕ) (sh : Shape) → is_all role e sh ≡ true → has label e ≡ true → (e == part) ≡ false → is_wanted role part label sh ≡ true
  is-all-wanted e (shape.HasAll s m) h t ne =
      let both = and_parts (role == s) (e == m) h in
      let same : e ≡ m = eqb-true e m both.1 in
      and_from (role == s) (not (m == part) && has label m) both.0
      (and_from (not (m == part)) (has label m) (ap not (subst (λ x. (x == part) ≡ false) same ne)) (subst (λ x. has label x ≡ true) same t))
  is-all-wanted e shape.Top h t ne = absurd (false≢true h)
  is-all-wanted e shape.Bottom h t ne = absurd (false≢true h)
  is-all-wanted e (shape.Name a) h t ne = absurd (false≢true h)
  is-all-wanted e (shape.Not a) h t ne = absurd (false≢true h)
  is-all-wanted e (shape.And a b) h t ne = absurd (false≢true h)
  is-all-wanted e (shape.Or a b) h t ne = absurd (false≢true h)
  is-all-wanted e (shape.HasSome a b) h t ne = absurd (false≢true h)

  pub successor-reason : IsBySuccessor r labels bound new n line
  successor-reason = record {
    role = role;
    part = part;
    shape_is = shape_is;
    in_label = with_it n ∙ or_left (n == n) (p n && wants r role part label n) (eq-eqb n n refl);
    cited = record {
      label = cited.label;
      earlier = cited.earlier;
      there = cited.there;
      within = λ e t.
          elim (cases_Bool (e == part)) [
            | inl is ↦ or_left (e == part) (any_at (λ m s. new m && is_all role e s) r.shapes) is
            | inr ne ↦ elim (or_cases (e == part) (any_at (λ m s. p m && is_all role e s) r.shapes) (cited.within e t)) [
              | inl is ↦ or_left (e == part) (any_at (λ m s. new m && is_all role e s) r.shapes) is
              | inr some ↦
                  let found = any_at-some (λ m s. p m && is_all role e s) r.shapes some in
                  let both = and_parts (p found.0) (is_all role e found.1) found.3 in
                  let t' : has label e ≡ true = subst (λ w. has w e ≡ true) (same_Some cited.label label (sym cited.there ∙ there_is)) t in
                  let wanted : wants r role part label found.0 ≡ true = ap (λ o. option_map_or (is_wanted role part label) o false) found.2 ∙ is-all-wanted e found.1 both.1 t' ne in
                  or_right (e == part) (any_at (λ m s. new m && is_all role e s) r.shapes)
                  (any_at-from (λ m s. new m && is_all role e s) r.shapes found.0 found.1 found.2
                  (and_from (new found.0) (is_all role e found.1) (with_it found.0 ∙ or_right (found.0 == n) (p found.0 && wants r role part label found.0) (and_from (p found.0) (wants r role part label found.0) both.0 wanted)) both.1))
            ]
          ];
    };
  }

  pub successor-implies : Implies new p
  successor-implies = successor-within

-- ---- one set by another name

pub least-same : (r : Rules) (labels : List (List ℕ)) (p q : ℕ → Bool) (t : ℕ) → ((k : ℕ) → q k ≡ p k) → IsLeastAt r labels p t → IsLeastAt r labels q t
least-same r labels p q t same h = record {
  there = h.there;
  least = λ m e.
      let l = h.least m e in
      record {
        above = λ k u. l.above k (sym (same k) ∙ u);
        saturated = l.saturated;
        least = λ other w s. l.least other (λ k u. w k (same k ∙ u)) s;
      };
}

-- ---- the walk over the restrictions that pass something on

lt-yes : (a b : ℕ) → a < b → nat_lt a b ≡ true
lt-yes a b h = lt-ltb a b h

lt-no : (a b : ℕ) → b ≤ a → nat_lt a b ≡ false
lt-no a b h = false_from_ne_true (nat_lt a b) (λ t. let lt = ltb-true a b t in absurd (omega (arith, lt, h)))

pub passing-next : (words : List ℕ) (w p q : ℕ → Bool) (from n : ℕ) → IsNext words from (Some n) → ((k : ℕ) → p k ≡ (nat_lt k from && (has words k && w k)))
    → ((k : ℕ) → q k ≡ ((w n && (k == n)) || p k)) → (k : ℕ) → q k ≡ (nat_lt k (n + 1) && (has words k && w k))
passing-next words w p q from n next h with_it k = with_it k ∙ ap (λ b. (w n && (k == n)) || b) (h k) ∙ elim (cases_lt k from) [
  | inl before ↦
      ap (λ b. (w n && b) || (nat_lt k from && (has words k && w k))) (apart k n (λ e. absurd (omega (arith, e, before, next.0))))
      ∙ ap (λ b. b || (nat_lt k from && (has words k && w k))) (none (w n))
      ∙ ap (λ b. b && (has words k && w k)) (lt-yes k from before) ∙ ap (λ b. b && (has words k && w k)) (sym (lt-yes k (n + 1) (omega (arith, before, next.0))))
  | inr after ↦ elim (cases_lt k n) [
    | inl between ↦
        ap (λ b. (w n && b) || (nat_lt k from && (has words k && w k))) (apart k n (λ e. absurd (omega (arith, e, between))))
        ∙ ap (λ b. b || (nat_lt k from && (has words k && w k))) (none (w n))
        ∙ ap (λ b. b && (has words k && w k)) (lt-no k from after)
        ∙ sym (ap (λ b. nat_lt k (n + 1) && (b && w k)) (next.2 k after between) ∙ none (nat_lt k (n + 1)))
    | inr ge ↦ elim (cases_lt n k) [
      | inl past ↦
          ap (λ b. (w n && b) || (nat_lt k from && (has words k && w k))) (apart k n (λ e. absurd (omega (arith, e, past))))
          ∙ ap (λ b. b || (nat_lt k from && (has words k && w k))) (none (w n))
          ∙ ap (λ b. b && (has words k && w k)) (lt-no k from after) ∙ ap (λ b. b && (has words k && w k)) (sym (lt-no k (n + 1) (omega (arith, past))))
      | inr le ↦
          let is : k ≡ n = omega (arith, ge, le) in
          ap (λ b. (w n && b) || (nat_lt k from && (has words k && w k))) (eq-eqb k n is)
          ∙ ap (λ b. (w n && true) || (b && (has words k && w k))) (lt-no k from after)
          ∙ whole (w n) ∙ sym (ap (λ b. b && (has words k && w k)) (lt-yes k (n + 1) (omega (arith, is))) ∙ ap (λ m. has words m && w m) is ∙ ap (λ b. b && w n) next.1)
    ]
  ]
]
  where
    none : (a : Bool) → (a && false) ≡ false
    none true = refl
    none false = refl

    whole : (a : Bool) → ((a && true) || (false && (has words k && w k))) ≡ a
    whole true = refl
    whole false = refl

    apart : (a b : ℕ) → (a ≡ b → ⊥) → (a == b) ≡ false
    apart a b f = false_from_ne_true (a == b) (λ t. f (eqb-true a b t))

pub passing-end : (words : List ℕ) (w p : ℕ → Bool) (from : ℕ) → IsNext words from None → ((k : ℕ) → p k ≡ (nat_lt k from && (has words k && w k))) → (k : ℕ) → p k ≡ (has words k && w k)
passing-end words w p from next h k = h k ∙ elim (cases_lt k from) [
  | inl before ↦ ap (λ b. b && (has words k && w k)) (lt-yes k from before)
  | inr after ↦ ap (λ b. b && (has words k && w k)) (lt-no k from after) ∙ ap (λ b. b && w k) (sym (next k after))
]

-- ---- what a closed label's node says

rank-below : (k : ℕ) (o : Option ℕ) → is_below k o ≡ true → (j : ℕ) × (o ≡ Some j) × (j < k)
rank-below k None h = absurd (false≢true h)
rank-below k (Some j) h = (j, refl, ltb-true j k h)

module _ (v : GraphView) (graph : IsGraph v) (id rank : ℕ) (l : List ℕ) (at : IsAt v id l) (ranked : rank_of v id ≡ Some rank) where
  entry : (e : Entry) × (slice_get v.entries id ≡ Some e) × (e.rank ≡ Some rank)
  entry = found (slice_get v.entries id) ranked
    where
      found : (o : Option Entry) → option_map_or (λ (e : Entry). e.rank) o None ≡ Some rank → (e : Entry) × (o ≡ Some e) × (e.rank ≡ Some rank)
      found None k = cc
      found (Some e) k = (e, refl, k)

  right : IsEntry (rules_at v) v.labels v.entries l entry.0
  right = graph.right.each id l entry.0 at entry.1

  node-is : (n : Node) → n ≡ node_at v id → entry.0.node ≡ n
  node-is n is = sym (ap (λ o. option_map_or (λ (e : Entry). e.node) o node.Fresh) entry.1) ∙ sym is

  pub node-says : (n : Node) → n ≡ node_at v id → IsNode (rules_at v) v.labels l n
  node-says n is = subst (IsNode (rules_at v) v.labels l) (node-is n is) right.says

  pub node-closes : (n : Node) → n ≡ node_at v id → closes v.entries rank n ≡ true
  node-closes n is = subst (λ m. closes v.entries rank m ≡ true) (node-is n is) (right.ranked rank entry.2)

  module _ (b : Book) (lines : List ℕ) (are : AreLines v b lines rank) where
    below-line : (t : ℕ) → is_below rank (rank_at v.entries t) ≡ true → HasLine v b lines t
    below-line t h = let found = rank-below rank (rank_at v.entries t) h in are t found.0 found.1 found.2

    pub larger-line : (t : ℕ) → node.Larger t ≡ node_at v id → HasLine v b lines t
    larger-line t is = below-line t (node-closes (node.Larger t) is)

    pub split-lines : (s : Step) (to : List ℕ) → node.Split s to ≡ node_at v id → HaveLines v b lines to
    split-lines s to is i t e = below-line t (all-get (λ u. is_below rank (rank_at v.entries u)) to i t (node-closes (node.Split s to) is) e)
      where
        all-get : (f : ℕ → Bool) (xs : List ℕ) (i x : ℕ) → list_all f xs ≡ true → slice_get xs i ≡ Some x → f x ≡ true
        all-get f [] i x h e = cc
        all-get f (y ∷ ys) zero x h e = subst (λ z. f z ≡ true) (same_Some y x e) (and_parts (f y) (list_all f ys) h).0
        all-get f (y ∷ ys) (suc i) x h e = all-get f ys i x (and_parts (f y) (list_all f ys) h).1 e

-- the line of the label that a pair leads to is within what the restriction passes on
pub pair-line : (v : GraphView) (b : Book) (lines : List ℕ) (p : ℕ → Bool) (bound n t line role part : ℕ) → IsSuccessorAt (rules_at v) v.labels p n t
    → slice_get (rules_at v).shapes n ≡ Some (shape.HasSome role part) → AreLines v b lines bound → is_below bound (rank_of v t) ≡ true → line ≡ get_or lines t 0 → IsLine b (passes (rules_at v) p role part) line
pair-line v b lines p bound n t line role part next shape_is are h is =
    let found = rank-below bound (rank_of v t) h in
    let has_line = are t found.0 found.1 found.2 in
    subst (IsLine b (passes (rules_at v) p role part)) (sym (get_or_from_slice_get lines t has_line.line 0 has_line.given) ∙ sym is)
    (line-wider b (has has_line.label) (passes (rules_at v) p role part) has_line.line (λ k u. sym (next.follows role part has_line.label shape_is has_line.at k) ∙ u) has_line.within)
