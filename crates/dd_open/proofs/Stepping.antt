-- What is there once an element's label was gone through.
use Rattle.std.proofs.Common.{◌≡◌, ◌∙◌, ◌<◌, ◌≤◌, ◌+◌, ◌==◌, ◌&&◌, ◌||◌, ◌++◌, sym, refl, ap, ap₂, subst, ℕ, Bool, true, false, not, nat_lt, List, [], ◌∷◌, map, All, Contains, length, slice_get, Option, None, Some, inl, inr, arith}
use Rattle.std.specs.Option.{option_map, option_map_or}
use Rattle.std.specs.List.{list_all}
use Rattle.std.proofs.lemmas.Bool.{false≢true, and_parts, and_from, or_cases, or_left, or_right, cases_eq, eqb-true, eq-eqb, ne_eqb, ltb-false, not-true}
use Rattle.std.proofs.lemmas.List.Elements.{All-nil, All-cons, All-append, All-weaker, All-head, All-tail}
use Rattle.std.proofs.lemmas.List.Folds.{list_any-append}
use Rattle.std.proofs.lemmas.Option.{same_Some, slice_get-map, slice_get_within}
use Rattle.dd_concept.specs.declared.concept.Concept.{Concept}
use Rattle.dd_concept.specs.declared.concept.Concept.TheOpen.{Concept-F}
use Rattle.dd_concept.specs.declared.concept.Concept.TheViews.{out-Concept, outs-Name, outs-HasSome}
use Rattle.dd_concept.specs.declared.concept.Concept.TheVariants.{Name, HasSome}
use Rattle.dd_concept.specs.Closed.{IsClosedFor}
use Rattle.dd_concept.specs.Same.{has as has_concept}
use Rattle.dd_concept.proofs.SameIs.{of_form, of_form-out}
use Rattle.dd_concept.proofs.Sets.{same_tests}
use Rattle.dd_interp.specs.Meaning.{in_name}
use Rattle.dd_set.specs.Words.{has}
use Rattle.dd_set.specs.Sets.{numbers}
use Rattle.dd_set.specs.Marked.{is_among}
use Rattle.dd_set.proofs.Rising.{among-numbers}
use Rattle.dd_rules.specs.declared.shape.Shape.{Shape}
use Rattle.dd_rules.specs.declared.shape.Shape.TheVariants as shape
use Rattle.dd_rules.specs.Numbers.{place_of, shape_of, shape_form, not_shape}
use Rattle.dd_rules.specs.Closure.{are_distinct}
use Rattle.dd_rules.proofs.Numbered.{at-place, at-within, place-get, get-place, has-get}
use Rattle.dd_graph.specs.Right.{is_some_shape, stays_open, open_at, width_of}
use Rattle.dd_graph.specs.View.{GraphView, IsGraph, IsAt, concepts_in, props_at, rules_at}
use Rattle.dd_open.specs.Models.{labels_of}
use Rattle.dd_open.specs.Builds.{name_pair, name_pairs, IsFound, ArePairs, Meets, Builds}
use Rattle.dd_open.proofs.Models.{label-at}
use Rattle.dd_open.proofs.Growing.{labels-go, pair-of}
use Rattle.dd_open.proofs.Items.{get-map, any-item}
use Rattle.dd_graph.proofs.Lists.{place_at as item}

-- ---- names

-- each pair of names is one of the element
pair-below : (o : Option Shape) (x : ℕ) → All (λ (p : ℕ × ℕ). p.1 < x + 1) (name_pair o x)
pair-below None x = All-nil (λ (p : ℕ × ℕ). p.1 < x + 1)
pair-below (Some (shape.Name a)) x = All-cons (λ (p : ℕ × ℕ). p.1 < x + 1) (a, x) [] (omega arith) (All-nil (λ (p : ℕ × ℕ). p.1 < x + 1))
pair-below (Some shape.Top) x = All-nil (λ (p : ℕ × ℕ). p.1 < x + 1)
pair-below (Some shape.Bottom) x = All-nil (λ (p : ℕ × ℕ). p.1 < x + 1)
pair-below (Some (shape.Not a)) x = All-nil (λ (p : ℕ × ℕ). p.1 < x + 1)
pair-below (Some (shape.And a b)) x = All-nil (λ (p : ℕ × ℕ). p.1 < x + 1)
pair-below (Some (shape.Or a b)) x = All-nil (λ (p : ℕ × ℕ). p.1 < x + 1)
pair-below (Some (shape.HasSome a b)) x = All-nil (λ (p : ℕ × ℕ). p.1 < x + 1)
pair-below (Some (shape.HasAll a b)) x = All-nil (λ (p : ℕ × ℕ). p.1 < x + 1)

pairs-below : (shapes : List Shape) (ns : List ℕ) (x : ℕ) → All (λ (p : ℕ × ℕ). p.1 < x + 1) (name_pairs shapes ns x)
pairs-below shapes [] x = All-nil (λ (p : ℕ × ℕ). p.1 < x + 1)
pairs-below shapes (n ∷ ns) x = All-append (λ (p : ℕ × ℕ). p.1 < x + 1) (name_pair (slice_get shapes n) x) (name_pairs shapes ns x) (pair-below (slice_get shapes n) x) (pairs-below shapes ns x)

-- no pair is of an element above the bound
none-above : (names : List (ℕ × ℕ)) (n k a : ℕ) → All (λ (p : ℕ × ℕ). p.1 < n) names → n ≤ k → in_name names a k ≡ false
none-above [] n k a h le = refl
none-above (p ∷ ps) n k a h le =
    let first : p.1 < n = All-head (λ (q : ℕ × ℕ). q.1 < n) p ps h in
    let apart : (p.1 == k) ≡ false = ne_eqb p.1 k (λ e. omega (arith, first, le, e)) in
    ap₂ (λ b c. b || c) (ap (λ b. (p.0 == a) && b) apart ∙ and-false (p.0 == a)) (none-above ps n k a (All-tail (λ (q : ℕ × ℕ). q.1 < n) p ps h) le)
  where
    and-false : (b : Bool) → (b && false) ≡ false
    and-false true = refl
    and-false false = refl

pair-name : (o : Option Shape) (x a : ℕ) → in_name (name_pair o x) a x ≡ true → o ≡ Some (shape.Name a)
pair-name None x a h = absurd (false≢true h)
pair-name (Some (shape.Name b)) x a h = elim (or_cases ((b == a) && (x == x)) false h) [
  | inl t ↦ ap (λ n. Some (shape.Name n)) (eqb-true b a (and_parts (b == a) (x == x) t).0)
  | inr f ↦ absurd (false≢true f)
]
pair-name (Some shape.Top) x a h = absurd (false≢true h)
pair-name (Some shape.Bottom) x a h = absurd (false≢true h)
pair-name (Some (shape.Not b)) x a h = absurd (false≢true h)
pair-name (Some (shape.And b c)) x a h = absurd (false≢true h)
pair-name (Some (shape.Or b c)) x a h = absurd (false≢true h)
pair-name (Some (shape.HasSome b c)) x a h = absurd (false≢true h)
pair-name (Some (shape.HasAll b c)) x a h = absurd (false≢true h)

-- a pair of the element x comes from a number of the list that is that of the name
pairs-from : (shapes : List Shape) (ns : List ℕ) (x a : ℕ) → in_name (name_pairs shapes ns x) a x ≡ true → (n : ℕ) × (is_among n ns ≡ true) × (slice_get shapes n ≡ Some (shape.Name a))
pairs-from shapes [] x a h = absurd (false≢true h)
pairs-from shapes (n ∷ ns) x a h =
    elim (or_cases (in_name (name_pair (slice_get shapes n) x) a x) (in_name (name_pairs shapes ns x) a x)
    (sym (list_any-append (λ (p : ℕ × ℕ). (p.0 == a) && (p.1 == x)) (name_pair (slice_get shapes n) x) (name_pairs shapes ns x)) ∙ h)) [
      | inl t ↦ (n, or_left (n == n) (is_among n ns) (eq-eqb n n refl), pair-name (slice_get shapes n) x a t)
      | inr t ↦ let found = pairs-from shapes ns x a t in (found.0, or_right (n == found.0) (is_among found.0 ns) found.1, found.2)
    ]

pairs-to : (shapes : List Shape) (ns : List ℕ) (x a n : ℕ) → is_among n ns ≡ true → slice_get shapes n ≡ Some (shape.Name a) → in_name (name_pairs shapes ns x) a x ≡ true
pairs-to shapes [] x a n h e = absurd (false≢true h)
pairs-to shapes (m ∷ ms) x a n h e =
    list_any-append (λ (p : ℕ × ℕ). (p.0 == a) && (p.1 == x)) (name_pair (slice_get shapes m) x) (name_pairs shapes ms x)
    ∙ elim (or_cases (m == n) (is_among n ms) h) [
      | inl t ↦ or_left (in_name (name_pair (slice_get shapes m) x) a x) (in_name (name_pairs shapes ms x) a x)
          (ap (λ o. in_name (name_pair o x) a x) (ap (slice_get shapes) (eqb-true m n t) ∙ e)
          ∙ or_left ((a == a) && (x == x)) false (and_from (a == a) (x == x) (eq-eqb a a refl) (eq-eqb x x refl)))
      | inr t ↦ or_right (in_name (name_pair (slice_get shapes m) x) a x) (in_name (name_pairs shapes ms x) a x) (pairs-to shapes ms x a n t e)
    ]

not_name : (a : ℕ) (z : Concept-F Concept) → not_shape z ≡ shape.Name a → ⊥
not_name a (Concept-F.Name b) e = cc
not_name a _ e = cc

name-form : (concepts : List Concept) (c : Concept) (y : Concept-F Concept) → of_form y ≡ c → (a : ℕ) → shape_form concepts y ≡ shape.Name a → Name a ≡ c
name-form concepts c (Concept-F.Name b) e a h = ap Name (same b a h) ∙ e
  where
    same : (b a : ℕ) → shape.Name b ≡ shape.Name a → a ≡ b
    same b a h = cc
name-form concepts c Concept-F.Top e a h = cc
name-form concepts c Concept-F.Bottom e a h = cc
name-form concepts c (Concept-F.Not d) e a h = absurd (not_name a (out-Concept d) h)
name-form concepts c (Concept-F.And d f) e a h = cc
name-form concepts c (Concept-F.Or d f) e a h = cc
name-form concepts c (Concept-F.HasSome s d) e a h = cc
name-form concepts c (Concept-F.HasAll s d) e a h = cc

one-role : (r s m n : ℕ) → shape.HasSome r m ≡ shape.HasSome s n → r ≡ s
one-role r s m n h = cc

one-part : (r s m n : ℕ) → shape.HasSome r m ≡ shape.HasSome s n → m ≡ n
one-part r s m n h = cc

module _ (v : GraphView) (graph : IsGraph v) (distinct : are_distinct v.closure.concepts ≡ true)
    (closed : IsClosedFor v.closure.axioms (props_at v) v.closure.concepts) where
  abbrev concepts : List Concept
  concepts = v.closure.concepts

  abbrev shapes : List Shape
  shapes = map (shape_of concepts) concepts

  shape-at : (c : Concept) (y : Concept-F Concept) → out-Concept c ≡ y → has_concept concepts c ≡ true → slice_get shapes (place_of concepts c) ≡ Some (shape_form concepts y)
  shape-at c y is inside = slice_get-map (shape_of concepts) concepts (place_of concepts c)
      ∙ ap (option_map (shape_of concepts)) (get-place concepts c inside) ∙ ap (λ z. Some (shape_form concepts z)) is

  -- the pairs of the element are the names of its label
  pairs-name : (q : ℕ) (l : List ℕ) → IsAt v q l → (x a : ℕ) → in_name (name_pairs shapes (numbers l (length concepts)) x) a x ≡ has_concept (concepts_in v l) (Name a)
  pairs-name q l at x a = same_tests (in_name (name_pairs shapes (numbers l (length concepts)) x) a x) (has_concept (concepts_in v l) (Name a)) down up
    where
      down : in_name (name_pairs shapes (numbers l (length concepts)) x) a x ≡ true → has_concept (concepts_in v l) (Name a) ≡ true
      down h =
          let found = pairs-from shapes (numbers l (length concepts)) x a h in
          let whole = get-map (shape_of concepts) concepts found.0 (shape.Name a) found.2 in
          let is = name-form concepts whole.0 (out-Concept whole.0) (of_form-out whole.0) a whole.2 in
          let is_at : slice_get concepts found.0 ≡ Some (Name a) = whole.1 ∙ ap Some (sym is) in
          at-place concepts (has l) (Name a) distinct (has-get concepts found.0 (Name a) is_at) ∙ ap (has l) (place-get concepts found.0 (Name a) distinct is_at)
          ∙ sym (among-numbers (length concepts) l found.0 (graph.packed q l at)) ∙ found.1

      up : has_concept (concepts_in v l) (Name a) ≡ true → in_name (name_pairs shapes (numbers l (length concepts)) x) a x ≡ true
      up h =
          let inside = at-within concepts (has l) (Name a) h in
          pairs-to shapes (numbers l (length concepts)) x a (place_of concepts (Name a))
          (among-numbers (length concepts) l (place_of concepts (Name a)) (graph.packed q l at) ∙ sym (at-place concepts (has l) (Name a) distinct inside) ∙ h)
          (shape-at (Name a) (Concept-F.Name a) (outs-Name a) inside)

  -- each existential restriction of the element's label has an element
  found-now : (goal x : ℕ) (pairs : List (ℕ × ℕ)) (old new : List ℕ) (roles more : List (ℕ × ℕ × ℕ)) (are : ArePairs v old x pairs)
      → Meets v goal x pairs (length pairs) old new roles more → (l : List ℕ) → IsAt v are.position l → (r : ℕ) (c : Concept) → has_concept (concepts_in v l) (HasSome r c) ≡ true
      → IsFound (labels_of v new) more r x c
  found-now goal x pairs old new roles more are meets l at r c h =
      let inside = at-within concepts (has l) (HasSome r c) h in
      let n = place_of concepts (HasSome r c) in
      let part = closed.parts.somes r c inside in
      let has_it : has l n ≡ true = sym (at-place concepts (has l) (HasSome r c) distinct inside) ∙ h in
      let shape_is : slice_get shapes n ≡ Some (shape.HasSome r (place_of concepts c)) = shape-at (HasSome r c) (Concept-F.HasSome r c) (outs-HasSome r c) inside in
      let right = graph.right.each are.position l are.done.entry at are.done.is_entry in
      let kept = sym (ap (stays_open (width_of (rules_at v)) v.entries are.done.entry.upto) are.done.is_done) ∙ right.opened are.done.open_now in
      let full : width_of (rules_at v) ≤ are.done.entry.upto =
      ltb-false are.done.entry.upto (width_of (rules_at v)) (not-true (nat_lt are.done.entry.upto (width_of (rules_at v)))
      (and_parts (not (nat_lt are.done.entry.upto (width_of (rules_at v)))) (list_all (λ q. open_at v.entries q.1) are.done.pairs) kept).0) in
      let below = slice_get_within shapes n (shape.HasSome r (place_of concepts c)) shape_is in
      let listed = right.covered are.done.pairs n are.done.is_done (omega (arith, full, below))
      (and_from (has l n) (option_map_or is_some_shape (slice_get shapes n) false) has_it (ap (λ o. option_map_or is_some_shape o false) shape_is)) in
      let pair = any-item (λ (p : ℕ × ℕ). p.0 == n) are.done.pairs listed in
      let p = pair.1 in
      let number : p.0 ≡ n = eqb-true p.0 n pair.3 in
      let in_pairs : slice_get pairs pair.0 ≡ Some p = ap (λ ps. slice_get ps pair.0) are.same ∙ pair.2 in
      let met = meets.met pair.0 p (slice_get_within pairs pair.0 p in_pairs) in_pairs in
      let says = pair-of v graph distinct closed are.position are.done pair.0 p pair.2 in
      let shapes_same : shape.HasSome met.role met.part ≡ shape.HasSome r (place_of concepts c) =
      same_Some (shape.HasSome met.role met.part) (shape.HasSome r (place_of concepts c)) (sym met.restricts ∙ ap (slice_get shapes) number ∙ shape_is) in
      let role : met.role ≡ r = one-role met.role r met.part (place_of concepts c) shapes_same in
      let is_part : met.part ≡ place_of concepts c = one-part met.role r met.part (place_of concepts c) shapes_same in
      let asked : has met.leads.from (place_of concepts c) ≡ true = says.asks.follows met.role met.part met.leads.from met.restricts met.leads.is_from (place_of concepts c)
      ∙ or_left (place_of concepts c == met.part) _ (eq-eqb (place_of concepts c) met.part (sym is_part)) in
      record {
        to = met.to;
        label = concepts_in v met.leads.to;
        pair = subst (λ s. Contains more (s, x, met.to)) role met.pair;
        is_label = label-at v graph distinct closed new met.to met.position met.leads.to met.there met.leads.is_to;
        has_it = at-place concepts (has met.leads.to) c distinct part ∙ met.leads.within (place_of concepts c) asked;
      }

  pub element-done : (goal x q : ℕ) (pairs : List (ℕ × ℕ)) (old new : List ℕ) (names : List (ℕ × ℕ)) (roles more : List (ℕ × ℕ × ℕ)) (l : List ℕ)
      → Builds v goal old names roles x → slice_get old x ≡ Some q → IsAt v q l → ArePairs v old x pairs → Meets v goal x pairs (length pairs) old new roles more
      → Builds v goal new (names ++ name_pairs shapes (numbers l (length concepts)) x) more (x + 1)
  element-done goal x q pairs old new names roles more l builds at_x at are meets =
      let ps = name_pairs shapes (numbers l (length concepts)) x in
      let one : are.position ≡ q = same_Some are.position q (sym are.there ∙ at_x) in
      let old-at : (k : ℕ) → k < x → (p : ℕ) × (slice_get old k ≡ Some p) × (slice_get new k ≡ Some p) = λ k lt.
      let p = item old k (omega (arith, lt, slice_get_within old x q at_x)) in (p.0, p.1, meets.goes_on k p.0 p.1) in
      record {
        each = meets.each;
        names_below = All-append (λ (p : ℕ × ℕ). p.1 < x + 1) names ps
            (All-weaker (λ (p : ℕ × ℕ). p.1 < x) (λ (p : ℕ × ℕ). p.1 < x + 1) (λ p h. omega (arith, h)) names builds.names_below) (pairs-below shapes (numbers l (length concepts)) x);
        names_right = λ k p m lt at_k at_p a. list_any-append (λ (t : ℕ × ℕ). (t.0 == a) && (t.1 == k)) names ps ∙ elim (cases_eq k x) [
          | inl same ↦
              let is_x : slice_get new x ≡ Some p = ap (slice_get new) (sym same) ∙ at_k in
              let is_q : q ≡ p = same_Some q p (sym (meets.goes_on x q at_x) ∙ is_x) in
              let is_l : l ≡ m = same_Some l m (sym at ∙ ap (slice_get v.labels) is_q ∙ at_p) in
              ap₂ (λ b c. b || c) (none-above names x k a builds.names_below (omega (arith, same)))
              (ap (in_name ps a) same ∙ pairs-name q l at x a ∙ ap (λ w. has_concept (concepts_in v w) (Name a)) is_l)
          | inr other ↦
              let less : k < x = omega (arith, lt, other) in
              let before = old-at k less in
              let is_p : before.0 ≡ p = same_Some before.0 p (sym before.2 ∙ at_k) in
              ap₂ (λ b c. b || c) (builds.names_right k p m less (before.1 ∙ ap Some is_p) at_p a) (none-of ps k a (λ t e f. omega (arith, less, e, f)) (pairs-above shapes (numbers l (length concepts)) x))
              ∙ or-none (has_concept (concepts_in v m) (Name a))
        ];
        roles_right = meets.asked;
        somes = λ k p m lt at_k at_p r c h. elim (cases_eq k x) [
          | inl same ↦
              let is_x : slice_get new x ≡ Some p = ap (slice_get new) (sym same) ∙ at_k in
              let is_p : are.position ≡ p = one ∙ same_Some q p (sym (meets.goes_on x q at_x) ∙ is_x) in
              subst (λ j. IsFound (labels_of v new) more r j c) (sym same) (found-now goal x pairs old new roles more are meets m (ap (slice_get v.labels) is_p ∙ at_p) r c h)
          | inr other ↦
              let less : k < x = omega (arith, lt, other) in
              let before = old-at k less in
              let is_p : before.0 ≡ p = same_Some before.0 p (sym before.2 ∙ at_k) in
              let was = builds.somes k p m less (before.1 ∙ ap Some is_p) at_p r c h in
              record { to = was.to; label = was.label; pair = meets.roles_stay (r, k, was.to) was.pair; is_label = labels-go v old new meets.goes_on was.to was.label was.is_label; has_it = was.has_it }
        ];
      }
    where
      or-none : (b : Bool) → (b || false) ≡ b
      or-none true = refl
      or-none false = refl

      pairs-above : (ss : List Shape) (ns : List ℕ) (y : ℕ) → All (λ (p : ℕ × ℕ). p.1 ≡ y) (name_pairs ss ns y)
      pairs-above ss [] y = All-nil (λ (p : ℕ × ℕ). p.1 ≡ y)
      pairs-above ss (n ∷ ns) y = All-append (λ (p : ℕ × ℕ). p.1 ≡ y) (name_pair (slice_get ss n) y) (name_pairs ss ns y) (pair-is (slice_get ss n)) (pairs-above ss ns y)
        where
          pair-is : (o : Option Shape) → All (λ (p : ℕ × ℕ). p.1 ≡ y) (name_pair o y)
          pair-is (Some (shape.Name a)) = All-cons (λ (p : ℕ × ℕ). p.1 ≡ y) (a, y) [] refl (All-nil (λ (p : ℕ × ℕ). p.1 ≡ y))
          pair-is None = All-nil (λ (p : ℕ × ℕ). p.1 ≡ y)
          pair-is (Some shape.Top) = All-nil (λ (p : ℕ × ℕ). p.1 ≡ y)
          pair-is (Some shape.Bottom) = All-nil (λ (p : ℕ × ℕ). p.1 ≡ y)
          pair-is (Some (shape.Not a)) = All-nil (λ (p : ℕ × ℕ). p.1 ≡ y)
          pair-is (Some (shape.And a b)) = All-nil (λ (p : ℕ × ℕ). p.1 ≡ y)
          pair-is (Some (shape.Or a b)) = All-nil (λ (p : ℕ × ℕ). p.1 ≡ y)
          pair-is (Some (shape.HasSome a b)) = All-nil (λ (p : ℕ × ℕ). p.1 ≡ y)
          pair-is (Some (shape.HasAll a b)) = All-nil (λ (p : ℕ × ℕ). p.1 ≡ y)

      none-of : (qs : List (ℕ × ℕ)) (k a : ℕ) → ((t : ℕ × ℕ) → t.1 ≡ x → t.1 ≡ k → ⊥) → All (λ (p : ℕ × ℕ). p.1 ≡ x) qs → in_name qs a k ≡ false
      none-of [] k a f h = refl
      none-of (t ∷ ts) k a f h =
          ap₂ (λ b c. b || c) (ap (λ b. (t.0 == a) && b) (ne_eqb t.1 k (f t (All-head (λ (p : ℕ × ℕ). p.1 ≡ x) t ts h))) ∙ and-false (t.0 == a))
          (none-of ts k a f (All-tail (λ (p : ℕ × ℕ). p.1 ≡ x) t ts h))
        where
          and-false : (b : Bool) → (b && false) ≡ false
          and-false true = refl
          and-false false = refl
