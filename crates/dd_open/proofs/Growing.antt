-- One element more, and one pair of a role more.
use Rattle.std.proofs.Common.{◌≡◌, ◌∙◌, ◌<◌, ◌≤◌, ◌+◌, ◌++◌, sym, refl, ap, subst, ℕ, zero, suc, Bool, true, false, not, nat_lt, List, [], ◌∷◌, All, Contains, length, slice_get, Some, inl, inr, arith}
use Rattle.std.specs.Option.{option_map, option_map_or}
use Rattle.std.specs.List.{list_all}
use Rattle.std.proofs.lemmas.Bool.{and_parts, cases_eq}
use Rattle.std.proofs.lemmas.List.Elements.{All-nil, All-cons, All-append, All-weaker}
use Rattle.std.proofs.lemmas.Option.{same_Some, slice_get-map, slice_get_within, slice_get-get_or, get_or_from_slice_get}
use Rattle.std.proofs.Math.Logic.{∥∥₁_map}
use Rattle.dd_concept.specs.declared.concept.Concept.{Concept}
use Rattle.dd_concept.specs.declared.concept.Concept.TheViews.{out-Concept}
use Rattle.dd_concept.specs.declared.concept.Concept.TheVariants.{HasSome}
use Rattle.dd_concept.specs.Closed.{IsClosedFor}
use Rattle.dd_concept.proofs.SameIs.{of_form-out}
use Rattle.dd_concept.proofs.Sets.{within-from}
use Rattle.dd_interp.specs.Lean.{IsAsked}
use Rattle.dd_set.specs.Words.{has}
use Rattle.dd_set.specs.Marked.{AreOnce, with_arrival}
use Rattle.dd_set.proofs.Arrivals.{with_arrival-case, with_arrival-new, once-with_arrival}
use Rattle.dd_rules.specs.declared.shape.Shape.{Shape}
use Rattle.dd_rules.specs.declared.shape.Shape.TheVariants as shape
use Rattle.dd_rules.specs.Numbers.{place_of, shape_of, IsSuccessor}
use Rattle.dd_rules.specs.Closure.{are_distinct}
use Rattle.dd_rules.proofs.Numbered.{at-place, at-within, place-get, has-get}
use Rattle.dd_rules.proofs.Lifting.{successor-lifts}
use Rattle.dd_graph.specs.Reached.{IsReachedIn}
use Rattle.dd_graph.specs.Reached as reached_in
use Rattle.dd_graph.specs.Right.{IsSuccessorAt, is_some_shape, open_at, stays_open, width_of}
use Rattle.dd_graph.specs.View.{GraphView, IsGraph, IsAt, concepts_in, props_at, rules_at, is_open_at}
use Rattle.dd_graph.proofs.Lists.{get_push, get_push_old}
use Rattle.dd_graph.proofs.ReachedLifts.{some-form}
use Rattle.dd_open.specs.Ways.{LeadsTo, IsOpenDone}
use Rattle.dd_open.specs.Models.{words_at, labels_of}
use Rattle.dd_open.specs.Builds.{GoesOn, AreElements, IsMetBy, AddsRole, ArePairs, Meets}
use Rattle.dd_open.proofs.Models.{label-at}
use Rattle.dd_open.proofs.Items.{get-map, all-item}
use Rattle.dd_graph.proofs.Lists.{place_at as item}

-- ---- what was there stays

pub contains-old : {A : Type 0} (xs : List A) (y x : A) → Contains xs x → Contains (xs ++ y ∷ []) x
contains-old xs y x m =
    let at : slice_get xs m.0 ≡ Some x = slice_get-get_or xs m.0 x m.1 ∙ ap Some m.2 in
    let more = get_push_old xs y m.0 x at in
    (m.0, slice_get_within (xs ++ y ∷ []) m.0 x more, get_or_from_slice_get (xs ++ y ∷ []) m.0 x x more)

pub contains-new : {A : Type 0} (xs : List A) (y : A) → Contains (xs ++ y ∷ []) y
contains-new [] y = (zero, omega arith, refl)
contains-new (x ∷ xs) y = let m = contains-new xs y in (suc m.0, omega (arith, m.1), m.2)

pub goes-on_arrival : (ns : List ℕ) (n : ℕ) → GoesOn ns (with_arrival ns n)
goes-on_arrival ns n = with_arrival-case (λ more. GoesOn ns more) ns n (λ there k q e. e) (λ new k q e. get_push_old ns n k q e)

pub goes-on_trans : (a b c : List ℕ) → GoesOn a b → GoesOn b c → GoesOn a c
goes-on_trans a b c f g k q e = g k q (f k q e)

pub labels-go : (v : GraphView) (old new : List ℕ) → GoesOn old new → (k : ℕ) (l : List Concept) → slice_get (labels_of v old) k ≡ Some l → slice_get (labels_of v new) k ≡ Some l
labels-go v old new goes k l e =
    let q = get-map (λ p. concepts_in v (words_at v p)) old k l e in
    slice_get-map (λ p. concepts_in v (words_at v p)) new k ∙ ap (option_map (λ p. concepts_in v (words_at v p))) (goes k q.0 q.1) ∙ ap Some q.2

pub asked-goes : (v : GraphView) (old new : List ℕ) → GoesOn old new → (roles : List (ℕ × ℕ × ℕ)) → All (IsAsked (labels_of v old)) roles → All (IsAsked (labels_of v new)) roles
asked-goes v old new goes roles h = All-weaker (IsAsked (labels_of v old)) (IsAsked (labels_of v new)) (λ t a. record {
  from = a.from;
  to = a.to;
  part = a.part;
  needed = a.needed;
  is_from = labels-go v old new goes t.1 a.from a.is_from;
  is_to = labels-go v old new goes t.2 a.to a.is_to;
  asks = a.asks;
  is_needed = a.is_needed;
  met = a.met;
}) roles h

pub met-goes : (v : GraphView) (old new : List ℕ) → GoesOn old new → (roles more : List (ℕ × ℕ × ℕ)) → ((t : ℕ × ℕ × ℕ) → Contains roles t → Contains more t) → (x : ℕ) (p : ℕ × ℕ)
    → IsMetBy v old roles x p → IsMetBy v new more x p
met-goes v old new goes roles more stay x p m = record {
  role = m.role;
  part = m.part;
  to = m.to;
  position = m.position;
  restricts = m.restricts;
  pair = stay (m.role, x, m.to) m.pair;
  there = goes m.to m.position m.there;
  leads = m.leads;
}

module _ (v : GraphView) (graph : IsGraph v) (distinct : are_distinct v.closure.concepts ≡ true)
    (closed : IsClosedFor v.closure.axioms (props_at v) v.closure.concepts) where
  abbrev concepts : List Concept
  concepts = v.closure.concepts

  -- what an element's label and its entry say of one of its pairs
  pub record IsPair (q : ℕ) (p : ℕ × ℕ) : Type 0 where
    pub words : List ℕ
    pub at : IsAt v q words
    pub asks : IsSuccessorAt (rules_at v) v.labels (has words) p.0 p.1
    pub entry : (goal : ℕ → Bool) (m : List ℕ) → IsAt v p.1 m → (role c : ℕ) → slice_get (rules_at v).shapes p.0 ≡ Some (shape.HasSome role c)
        → IsReachedIn (rules_at v) goal (has words) → IsReachedIn (rules_at v) goal (has m)

  pub pair-of : (q : ℕ) (done : IsOpenDone v q) (k : ℕ) (p : ℕ × ℕ) → slice_get done.pairs k ≡ Some p → IsPair q p
  pair-of q done k p e =
      let at = item v.labels q (omega (arith, graph.right.sized, slice_get_within v.entries q done.entry done.is_entry)) in
      let right = graph.right.each q at.0 done.entry at.1 done.is_entry in
      let asks : IsSuccessorAt (rules_at v) v.labels (has at.0) p.0 p.1 = right.says.done done.pairs done.is_done k p.0 p.1 e in
      record {
        words = at.0;
        at = at.1;
        asks = asks;
        entry = λ goal m is_m role c shape_is h. ∥∥₁_map h (λ r. reached_in.successor (has at.0) (has m) p.0 role c r
            (right.says.clear_done done.pairs done.is_done) (and_parts (has at.0 p.0) (option_map_or is_some_shape (slice_get (rules_at v).shapes p.0) false) asks.restricts).0
            shape_is (asks.follows role c m shape_is is_m));
      }

  -- the pair of a role that is added is asked for
  asked-new : (elements : List ℕ) (x q role part to position : ℕ) (p : ℕ × ℕ) → slice_get elements x ≡ Some q → IsPair q p → slice_get (rules_at v).shapes p.0 ≡ Some (shape.HasSome role part)
      → LeadsTo v p.1 position → slice_get elements to ≡ Some position → IsAsked (labels_of v elements) (role, x, to)
  asked-new elements x q role part to position p at_x pair restricts leads there =
      let l = pair.words in
      let m = leads.from in
      let whole = get-map (shape_of concepts) concepts p.0 (shape.HasSome role part) restricts in
      let form = some-form concepts whole.0 (out-Concept whole.0) (of_form-out whole.0) role part whole.2 in
      let is_at : slice_get concepts p.0 ≡ Some (HasSome role form.0) = whole.1 ∙ ap Some (sym form.1) in
      let inside = has-get concepts p.0 (HasSome role form.0) is_at in
      let in_part = closed.parts.somes role form.0 inside in
      let has_it : has l p.0 ≡ true = (and_parts (has l p.0) (option_map_or is_some_shape (slice_get (rules_at v).shapes p.0) false) pair.asks.restricts).0 in
      let succ : IsSuccessor (rules_at v) (has l) role (place_of concepts form.0) (has m) =
      subst (λ c. IsSuccessor (rules_at v) (has l) role c (has m)) form.2 (pair.asks.follows role part m restricts leads.is_from) in
      record {
        from = concepts_in v l;
        to = concepts_in v leads.to;
        part = form.0;
        needed = concepts_in v m;
        is_from = label-at v graph distinct closed elements x q l at_x pair.at;
        is_to = label-at v graph distinct closed elements to position leads.to there leads.is_to;
        asks = at-place concepts (has l) (HasSome role form.0) distinct inside ∙ ap (has l) (place-get concepts p.0 (HasSome role form.0) distinct is_at) ∙ has_it;
        is_needed = successor-lifts concepts v.closure.axioms (props_at v) distinct closed (has l) role form.0 in_part (has m) succ;
        met = within-from (concepts_in v m) (concepts_in v leads.to) (λ c h.
            let c_inside = at-within concepts (has m) c h in
            at-place concepts (has leads.to) c distinct c_inside ∙ leads.within (place_of concepts c) (sym (at-place concepts (has m) c distinct c_inside) ∙ h));
      }

  -- the elements with one more
  elements-more : (goal : ℕ) (elements : List ℕ) (position : ℕ) → AreElements v goal elements → position < length v.labels → IsOpenDone v position
      → ((g l : List ℕ) → IsAt v goal g → IsAt v position l → IsReachedIn (rules_at v) (has g) (has l)) → AreElements v goal (with_arrival elements position)
  elements-more goal elements position each lt done reached = with_arrival-case (AreElements v goal) elements position (λ there. each) (λ new. record {
    once = subst (λ ns. AreOnce (length v.labels) ns) (with_arrival-new elements position new) (once-with_arrival (length v.labels) elements position each.once lt);
    done = get_push (λ k q. IsOpenDone v q) elements position each.done done;
    reached = λ k q g l e. get_push (λ k q. (g l : List ℕ) → IsAt v goal g → IsAt v q l → IsReachedIn (rules_at v) (has g) (has l)) elements position
        (λ k q e g l. each.reached k q g l e) reached k q e g l;
  })

  pub meets-start : (goal x : ℕ) (pairs : List (ℕ × ℕ)) (elements : List ℕ) (roles : List (ℕ × ℕ × ℕ)) → AreElements v goal elements → All (IsAsked (labels_of v elements)) roles
      → Meets v goal x pairs 0 elements elements roles roles
  meets-start goal x pairs elements roles each asked =
      record { each = each; asked = asked; goes_on = λ k q e. e; roles_stay = λ t m. m; met = λ k p lt e. absurd (omega (arith, lt)) }

  pub meets-next : (goal x i : ℕ) (pairs : List (ℕ × ℕ)) (p : ℕ × ℕ) (start old new : List ℕ) (first roles more : List (ℕ × ℕ × ℕ))
      → ArePairs v start x pairs → slice_get pairs i ≡ Some p → Meets v goal x pairs i start old first roles → AddsRole v x p old new roles more
      → Meets v goal x pairs (i + 1) start new first more
  meets-next goal x i pairs p start old new first roles more are at meets adds =
      let pair = pair-of are.position are.done i p (sym (ap (λ ps. slice_get ps i) are.same) ∙ at) in
      let grows : GoesOn old new = subst (GoesOn old) (sym adds.grown) (goes-on_arrival old adds.position) in
      let all_on = goes-on_trans start old new meets.goes_on grows in
      let reached : (g l : List ℕ) → IsAt v goal g → IsAt v adds.position l → IsReachedIn (rules_at v) (has g) (has l) = λ g l at_g at_l.
      let to : adds.leads.to ≡ l = same_Some adds.leads.to l (sym adds.leads.is_to ∙ at_l) in
      subst (λ w. IsReachedIn (rules_at v) (has g) (has w)) to (adds.leads.reached (has g)
      (pair.entry (has g) adds.leads.from adds.leads.is_from adds.role adds.part adds.restricts
      (meets.each.reached x are.position g pair.words (meets.goes_on x are.position are.there) at_g pair.at))) in
      let stay : (t : ℕ × ℕ × ℕ) → Contains roles t → Contains more t = λ t m. subst (λ ts. Contains ts t) (sym adds.added) (contains-old roles (adds.role, x, adds.to) t m) in
      record {
        each = subst (AreElements v goal) (sym adds.grown) (elements-more goal old adds.position meets.each adds.within adds.done reached);
        asked = subst (All (IsAsked (labels_of v new))) (sym adds.added) (All-append (IsAsked (labels_of v new)) roles ((adds.role, x, adds.to) ∷ [])
            (asked-goes v old new grows roles meets.asked)
            (All-cons (IsAsked (labels_of v new)) (adds.role, x, adds.to) [] (asked-new new x are.position adds.role adds.part adds.to adds.position p (all_on x are.position are.there) pair adds.restricts adds.leads adds.there)
            (All-nil (IsAsked (labels_of v new)))));
        goes_on = all_on;
        roles_stay = λ t m. stay t (meets.roles_stay t m);
        met = λ k s lt e. elim (cases_eq k i) [
          | inl same ↦ subst (IsMetBy v new more x) (same_Some p s (sym at ∙ ap (slice_get pairs) (sym same) ∙ e)) (record {
            role = adds.role;
            part = adds.part;
            to = adds.to;
            position = adds.position;
            restricts = adds.restricts;
            pair = subst (λ ts. Contains ts (adds.role, x, adds.to)) (sym adds.added) (contains-new roles (adds.role, x, adds.to));
            there = adds.there;
            leads = adds.leads;
          })
          | inr other ↦ met-goes v old new grows roles more stay x s (meets.met k s (omega (arith, lt, other)) e)
        ];
      }

  -- what is known of a pair before it is added
  pub record IsReady (p : ℕ × ℕ) : Type 0 where
    pub number : p.0 < length concepts
    pub restricts : (s : Shape) → slice_get (rules_at v).shapes p.0 ≡ Some s → is_some_shape s ≡ true
    pub within : p.1 < length v.labels
    pub open_now : is_open_at v p.1 ≡ true

  pub ready : (elements : List ℕ) (x i : ℕ) (pairs : List (ℕ × ℕ)) (p : ℕ × ℕ) → ArePairs v elements x pairs → slice_get pairs i ≡ Some p → IsReady p
  ready elements x i pairs p are at =
      let in_done : slice_get are.done.pairs i ≡ Some p = sym (ap (λ ps. slice_get ps i) are.same) ∙ at in
      let pair = pair-of are.position are.done i p in_done in
      let right = graph.right.each are.position pair.words are.done.entry pair.at are.done.is_entry in
      let both = and_parts (has pair.words p.0) (option_map_or is_some_shape (slice_get (rules_at v).shapes p.0) false) pair.asks.restricts in
      let kept = sym (ap (stays_open (width_of (rules_at v)) v.entries are.done.entry.upto) are.done.is_done) ∙ right.opened are.done.open_now in
      record {
        number = (graph.packed are.position pair.words pair.at).within p.0 both.0;
        restricts = λ s e. sym (ap (λ o. option_map_or is_some_shape o false) e) ∙ both.1;
        within = pair.asks.there;
        open_now = all-item (λ q. open_at v.entries q.1) are.done.pairs i p
            (and_parts (not (nat_lt are.done.entry.upto (width_of (rules_at v)))) (list_all (λ q. open_at v.entries q.1) are.done.pairs) kept).1 in_done;
      }

  pub meets-end : (goal x i n : ℕ) (pairs : List (ℕ × ℕ)) (start old : List ℕ) (first roles : List (ℕ × ℕ × ℕ)) → n ≤ i → Meets v goal x pairs i start old first roles
      → Meets v goal x pairs n start old first roles
  meets-end goal x i n pairs start old first roles le m =
      record { each = m.each; asked = m.asked; goes_on = m.goes_on; roles_stay = m.roles_stay; met = λ k p lt e. m.met k p (omega (arith, lt, le)) e }
