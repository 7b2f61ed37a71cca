-- A model that was built to its end is one of the axioms and the propagations, and is lean.
use Rattle.std.proofs.Common.{◌≡◌, ◌∙◌, ◌<◌, ◌==◌, sym, refl, ap, subst, ℕ, Bool, true, false, List, [], ◌∷◌, length, get_or, slice_get, Option, Some, inl, inr, arith}
use Rattle.std.specs.Option.{option_map, option_map_or}
use Rattle.std.specs.List.{IsDistinct}
use Rattle.std.proofs.lemmas.Bool.{false≢true, cases_eq, cases_lt, eq-eqb}
use Rattle.std.proofs.lemmas.Map.Keys.{apart_from_distinct}
use Rattle.std.proofs.lemmas.List.{length-map}
use Rattle.std.proofs.lemmas.Option.{same_Some, slice_get-map, slice_get_within, get_or_from_slice_get}
use Rattle.dd_concept.specs.declared.concept.Concept.{Concept}
use Rattle.dd_concept.specs.declared.concept.Concept.TheVariants.{Name, HasSome}
use Rattle.dd_concept.specs.Closed.{IsClosedFor}
use Rattle.dd_concept.specs.Normal.{IsNormal}
use Rattle.dd_concept.specs.Reached.{IsReached}
use Rattle.dd_concept.specs.Same.{has as has_concept, SameSet}
use Rattle.dd_concept.specs.Saturated.{IsClear}
use Rattle.dd_concept.specs.Steps.{IsComplete}
use Rattle.dd_interp.specs.declared.interp.Interp.{Interp}
use Rattle.dd_interp.specs.Labels.{HasLabel}
use Rattle.dd_interp.specs.Lean.{IsLeanBy}
use Rattle.dd_interp.specs.Open.{IsOpenBy}
use Rattle.dd_interp.specs.Satisfies.{IsShaped}
use Rattle.dd_interp.proofs.OpenModels.{label-holds, open-axioms, open-propagations}
use Rattle.dd_set.specs.Words.{has}
use Rattle.dd_set.proofs.Comparing.{same-from_numbers}
use Rattle.dd_rules.specs.Numbers.{place_of}
use Rattle.dd_rules.specs.Closure.{are_distinct}
use Rattle.dd_rules.proofs.Numbered.{at-place, at-within, place-get, has-get}
use Rattle.dd_table.specs.Labels.{number_of}
use Rattle.dd_graph.proofs.ReachedLifts.{reached-lifts, clear-lifts}
use Rattle.dd_rules.proofs.Lifting.{is_complete-decides}
use Rattle.dd_graph.specs.Right.{IsEntry}
use Rattle.dd_graph.specs.View.{GraphView, IsGraph, IsAt, concepts_in, props_at, rules_at}
use Rattle.dd_open.specs.NotBoth.{IsModelOf}
use Rattle.dd_open.specs.Ways.{LeadsTo, IsOpenDone}
use Rattle.dd_open.specs.Models.{words_at, labels_of, IsModelAt}
use Rattle.dd_open.specs.Builds.{Builds}
use Rattle.dd_open.proofs.Items.{get-map}
use Rattle.dd_graph.proofs.Lists.{place_at as item}

-- what is there once has one place
one-place : (ns : List ℕ) → IsDistinct (λ m n. m == n) ns → (j k q : ℕ) → slice_get ns j ≡ Some q → slice_get ns k ≡ Some q → j ≡ k
one-place ns d j k q e f = elim (cases_eq j k) [
  | inl same ↦ same
  | inr other ↦ elim (cases_lt j k) [
    | inl lt ↦ absurd (clash j k q (apart_from_distinct (λ m n. m == n) ns j k 0 d lt (slice_get_within ns k q f)) e f)
    | inr le ↦ absurd (clash k j q (apart_from_distinct (λ m n. m == n) ns k j 0 d (omega (arith, le, other)) (slice_get_within ns j q e)) f e)
  ]
]
  where
    clash : (a b p : ℕ) → (get_or ns a 0 == get_or ns b 0) ≡ false → slice_get ns a ≡ Some p → slice_get ns b ≡ Some p → ⊥
    clash a b p h at_a at_b = false≢true (sym h ∙ eq-eqb (get_or ns a 0) (get_or ns b 0) (get_or_from_slice_get ns a p 0 at_a ∙ sym (get_or_from_slice_get ns b p 0 at_b)))

module _ (v : GraphView) (graph : IsGraph v) (distinct : are_distinct v.closure.concepts ≡ true)
    (closed : IsClosedFor v.closure.axioms (props_at v) v.closure.concepts) where
  abbrev concepts : List Concept
  concepts = v.closure.concepts

  -- the label of an element
  pub label-at : (elements : List ℕ) (k q : ℕ) (l : List ℕ) → slice_get elements k ≡ Some q → IsAt v q l → slice_get (labels_of v elements) k ≡ Some (concepts_in v l)
  label-at elements k q l e at = slice_get-map (λ p. concepts_in v (words_at v p)) elements k ∙ ap (option_map (λ p. concepts_in v (words_at v p))) e
      ∙ ap (λ (o : Option (List ℕ)). Some (concepts_in v (option_map_or (λ w. w) o []))) at

  numbers-below : (q : ℕ) (l : List ℕ) → IsAt v q l → (n : ℕ) → has l n ≡ true → (c : Concept) × (slice_get concepts n ≡ Some c)
  numbers-below q l at n h = item concepts n ((graph.packed q l at).within n h)

  -- labels with the same concepts are at one position
  one-position : (p q : ℕ) (l m : List ℕ) → IsAt v p l → IsAt v q m → SameSet (concepts_in v l) (concepts_in v m) → p ≡ q
  one-position p q l m at_p at_q same =
      let numbers : (n : ℕ) → has l n ≡ has m n = each in
      let words : l ≡ m = same-from_numbers (length concepts) l m (graph.packed p l at_p) (graph.packed q m at_q) numbers in
      sym (graph.distinct p l at_p) ∙ ap (number_of v.labels) words ∙ graph.distinct q m at_q
    where
      one : (a b : Bool) → (a ≡ true → b ≡ true) → (b ≡ true → a ≡ true) → a ≡ b
      one true true f g = refl
      one true false f g = absurd (false≢true (f refl))
      one false true f g = absurd (false≢true (g refl))
      one false false f g = refl

      has-concept : (r : ℕ) (w : List ℕ) → IsAt v r w → (n : ℕ) (c : Concept) → slice_get concepts n ≡ Some c → has_concept (concepts_in v w) c ≡ has w n
      has-concept r w at n c e = at-place concepts (has w) c distinct (has-get concepts n c e) ∙ ap (has w) (place-get concepts n c distinct e)

      each : (n : ℕ) → has l n ≡ has m n
      each n = one (has l n) (has m n)
          (λ h. let c = numbers-below p l at_p n h in sym (has-concept q m at_q n c.0 c.1) ∙ sym (same c.0) ∙ has-concept p l at_p n c.0 c.1 ∙ h)
          (λ h. let c = numbers-below q m at_q n h in sym (has-concept p l at_p n c.0 c.1) ∙ same c.0 ∙ has-concept q m at_q n c.0 c.1 ∙ h)

  module _ (normal : (c : Concept) → has_concept v.closure.concepts c ≡ true → IsNormal c) (goal : ℕ) (elements : List ℕ) (names : List (ℕ × ℕ)) (roles : List (ℕ × ℕ × ℕ)) (built : Builds v goal elements names roles (length elements)) where
    abbrev labels : List (List Concept)
    labels = labels_of v elements

    abbrev pub model : Interp
    model = record { size = length elements; names = names; roles = roles }

    -- an element by its place: its position, its words, and what was done there
    pub record IsElement (k : ℕ) (l : List Concept) : Type 0 where
      pub position : ℕ
      pub words : List ℕ
      pub is_position : slice_get elements k ≡ Some position
      pub is_words : IsAt v position words
      pub is_label : l ≡ concepts_in v words
      pub done : IsOpenDone v position
      pub entry : IsEntry (rules_at v) v.labels v.entries words done.entry

    element : (k : ℕ) (l : List Concept) → slice_get labels k ≡ Some l → IsElement k l
    element k l e =
        let q = get-map (λ p. concepts_in v (words_at v p)) elements k l e in
        let done = built.each.done k q.0 q.1 in
        let at = item v.labels q.0 (omega (arith, graph.right.sized, slice_get_within v.entries q.0 done.entry done.is_entry)) in
        record {
          position = q.0;
          words = at.0;
          is_position = q.1;
          is_words = at.1;
          is_label = sym q.2 ∙ ap (λ (o : Option (List ℕ)). concepts_in v (option_map_or (λ w. w) o [])) at.1;
          done = done;
          entry = graph.right.each q.0 at.0 done.entry at.1 done.is_entry;
        }

    place-below : (k : ℕ) (l : List Concept) → slice_get labels k ≡ Some l → k < length elements
    place-below k l e = let x = element k l e in slice_get_within elements k x.position x.is_position

    open-by : IsOpenBy v.closure.axioms (props_at v) model labels
    open-by = record {
      one_each = length-map elements (λ p. concepts_in v (words_at v p));
      normal = λ x l at c h.
          let e = element x l at in
          normal c (at-within concepts (has e.words) c (subst (λ m. has_concept m c ≡ true) e.is_label h));
      clear = λ x l at.
          let e = element x l at in
          subst (λ m. IsClear v.closure.axioms m) (sym e.is_label)
          (clear-lifts concepts v.closure.axioms (props_at v) distinct closed (has e.words) (e.entry.says.clear_done e.done.pairs e.done.is_done));
      complete = λ x l at.
          let e = element x l at in
          subst (λ m. IsComplete v.closure.axioms (props_at v) m) (sym e.is_label)
          ((is_complete-decides concepts v.closure.axioms (props_at v) distinct closed (has e.words)).0
          (e.entry.complete e.done.pairs e.done.is_done (e.entry.unranked e.done.open_now)));
      names = λ x l at a.
          let e = element x l at in
          built.names_right x e.position e.words (place-below x l at) e.is_position e.is_words a ∙ ap (λ m. has_concept m (Name a)) (sym e.is_label);
      roles = built.roles_right;
      somes = λ x l at r c h.
          let e = element x l at in
          let met = built.somes x e.position e.words (place-below x l at) e.is_position e.is_words r c (subst (λ m. has_concept m (HasSome r c) ≡ true) e.is_label h) in
          record { to = met.to; label = met.label; pair = met.pair; is_label = met.is_label; has_it = met.has_it };
    }

    lean-by : (g : List ℕ) → IsAt v goal g → IsLeanBy v.closure.axioms (props_at v) (concepts_in v g ∷ []) model labels
    lean-by g at_g = record {
      one_each = length-map elements (λ p. concepts_in v (words_at v p));
      distinct = λ x y l m at_x at_y same.
          let a = element x l at_x in
          let b = element y m at_y in
          let one = one-position a.position b.position a.words b.words a.is_words b.is_words
          (λ c. ap (λ n. has_concept n c) (sym a.is_label) ∙ same c ∙ ap (λ n. has_concept n c) b.is_label) in
          apart x y a.position a.is_position (b.is_position ∙ ap Some (sym one));
      reached = λ x l at.
          let e = element x l at in
          subst (λ m. IsReached v.closure.axioms (props_at v) (concepts_in v g ∷ []) m) (sym e.is_label)
          (reached-lifts concepts v.closure.axioms (props_at v) distinct closed (has g) (has e.words) (numbers-below goal g at_g)
          (built.each.reached x e.position g e.words e.is_position at_g e.is_words));
      names = open-by.names;
      roles = built.roles_right;
    }
      where
        apart : (x y q : ℕ) → slice_get elements x ≡ Some q → slice_get elements y ≡ Some q → x ≡ y
        apart x y q e f = one-place elements (built.each.once.distinct) x y q e f

    shaped : IsShaped model
    shaped = record {
      names = built.names_below;
      roles = λ k d lt. let asked = built.roles_right k d lt in (
        omega (arith, slice_get_within labels (get_or roles k d).1 asked.from asked.is_from, length-map elements (λ p. concepts_in v (words_at v p))),
        omega (arith, slice_get_within labels (get_or roles k d).2 asked.to asked.is_to, length-map elements (λ p. concepts_in v (words_at v p))),
      );
    }

    pub is_model : IsModelOf v model
    is_model = record {
      shaped = shaped;
      axioms = open-axioms v.closure.axioms (props_at v) model labels open-by;
      propagations = open-propagations v.closure.axioms (props_at v) model labels open-by;
    }

    -- the element that the goal leads to has the goal's label
    has-goal : (x q : ℕ) → slice_get elements x ≡ Some q → LeadsTo v goal q → (g : List ℕ) → IsAt v goal g → HasLabel model x (concepts_in v g)
    has-goal x q e way g at c h =
        let same : way.from ≡ g = same_Some way.from g (sym way.is_from ∙ at) in
        let inside = at-within concepts (has g) c h in
        let number : has g (place_of concepts c) ≡ true = sym (at-place concepts (has g) c distinct inside) ∙ h in
        let there : has way.to (place_of concepts c) ≡ true = way.within (place_of concepts c) (subst (λ w. has w (place_of concepts c) ≡ true) (sym same) number) in
        label-holds v.closure.axioms (props_at v) model labels open-by x (concepts_in v way.to) (label-at elements x q way.to e way.is_to) c
        (at-place concepts (has way.to) c distinct inside ∙ there)

    pub is_model_at : (x q : ℕ) → slice_get elements x ≡ Some q → LeadsTo v goal q → IsModelAt v goal model x elements
    is_model_at x q e way = record {
      model = is_model;
      element = slice_get_within elements x q e;
      label = has-goal x q e way;
      within = λ k p f. let done = built.each.done k p f in omega (arith, graph.right.sized, slice_get_within v.entries p done.entry done.is_entry);
      distinct = λ j k p f h. one-place elements (built.each.once.distinct) j k p f h;
      lean = lean-by;
    }
