-- The walk that confirms that the goal is open: how it begins, a turn of it, and its end.
use Rattle.std.proofs.Common.{◌≡◌, ◌∙◌, ℕ, zero, suc, ◌<◌, ◌≤◌, ◌+◌, ◌*◌, ◌==◌, ◌||◌, ◌&&◌, not, Bool, true, false, if◌then◌else◌, List, [], ◌∷◌, All, length, map, None, Some, slice_get, sum_by, refl, sym, ap, ap₂, subst, arith, inl, inr}
use Rattle.std.specs.Option.{option_map, option_map_or}
use Rattle.std.proofs.Math.Logic.{∥∥₁_map}
use Rattle.std.proofs.lemmas.Bool.{false≢true, and_from, or_left, or_right, or_cases, or_parts, cases_lt, eq-eqb, eqb-true}
use Rattle.std.proofs.lemmas.List.{length-map}
use Rattle.std.proofs.lemmas.List.Elements.{All-nil, All-cons, All-head, All-tail}
use Rattle.std.proofs.lemmas.Option.{slice_get_within, get_or_from_slice_get}
use Rattle.dd_rules.specs.Compiled.{rules_in}
use Rattle.dd_rules.specs.Numbers.{shape_of}
use Rattle.dd_table.specs.Labels.{Labels}
use Rattle.dd_set.specs.Marked.{is_among}
use Rattle.dd_set.specs.Words.{has}
use Rattle.dd_graph.specs.declared.kernel.Kernel.{Kernel}
use Rattle.dd_graph.specs.declared.node.Entry.{Entry}
use Rattle.dd_graph.specs.declared.node.Node.{Node}
use Rattle.dd_graph.specs.declared.node.Node.TheVariants as node
use Rattle.dd_graph.specs.Goes.{Goes, IsBegun, Marks, unfinished_at, is_begun, is_unfinished, width_in, work}
use Rattle.dd_graph.specs.Right.{IsEntry, AreEntries, closes, effort, effort_of, open_at, rank_at, stays_open, one_if_some, width_of}
use Rattle.dd_graph.specs.Trail.{IsLeft, IsTrail, is_held, looked_at, needed_of, open_all, sustains, with_all}
use Rattle.dd_graph.specs.View.{is_settled, is_some_rank, kernel_view, rules_at}
use Rattle.dd_graph.proofs.Beginning.{reached-goal}
use Rattle.dd_graph.proofs.Kept.{opening, opened_if}
use Rattle.dd_graph.proofs.Lists.{same_Some, place_at, get_set_same}
use Rattle.dd_graph.proofs.Opening.{open_all-get, open_all-length, open_all-sum, held-open, opened-same}
use Rattle.dd_graph.proofs.Trailing.{Needed, needed, sustained, sustains-mono, stays-sustains, all-keeps, all-has, all-cases, all-prefix, place-among, among-place}

-- the goal alone
pub trail-start : (k : Kernel) → IsBegun k → rank_at k.entries.items k.goal ≡ None → IsTrail k 0 (k.goal ∷ [])
trail-start k begun unranked = record {
  goal = or_left (k.goal == k.goal) false (eq-eqb k.goal k.goal refl);
  within = λ n h. subst (λ m. m < length k.entries.items) (the_goal n h) (let sized = k.right.sized in omega (arith, begun, sized));
  free = λ n h. subst (λ m. rank_at k.entries.items m ≡ None) (the_goal n h) unranked;
  reached = λ n l h at g at_goal. reached-goal (rules_at (kernel_view k)) g l (same_Some g l (sym at_goal ∙ ap (slice_get k.table.list) (the_goal n h) ∙ at));
  kept = λ i n e lt at here. absurd (omega (arith, lt));
}
  where
    the_goal : (n : ℕ) → is_among n (k.goal ∷ []) ≡ true → k.goal ≡ n
    the_goal n h = elim (or_cases (k.goal == n) false h) [ inl e ↦ eqb-true k.goal n e | inr never ↦ absurd (false≢true never) ]

-- what is not left and not open is neither begun nor closable
unbegun : (width : ℕ) (entries : List Entry) (closed : ℕ) (e : Entry) → e.rank ≡ None → e.open ≡ false → is_unfinished width entries closed e ≡ false
    → (is_begun width e.upto e.node ≡ false) × (closes entries closed e.node ≡ false)
unbegun width entries closed e none shut h =
    let free : not (is_some_rank e.rank || e.open) ≡ true = ap₂ (λ o b. not (is_some_rank o || b)) none shut in
    or_parts (is_begun width e.upto e.node) (closes entries closed e.node)
    (sym (ap (λ b. b && (is_begun width e.upto e.node || closes entries closed e.node)) free) ∙ h)

rank-here : (entries : List Entry) (k : ℕ) (e : Entry) → slice_get entries k ≡ Some e → rank_at entries k ≡ e.rank
rank-here entries k e is = ap (λ o. option_map_or (λ (x : Entry). x.rank) o None) is

abbrev grow : List Entry → ℕ → Node → List ℕ → Bool → List ℕ
grow entries hint n ns b = if b then ns else with_all ns (needed_of entries hint n)

-- the label and the entry at a position of the list
record Here (k : Kernel) (ns : List ℕ) (id : ℕ) : Type 0 where
  pub member : is_among id ns ≡ true
  pub entry : Entry
  pub entry_at : slice_get k.entries.items id ≡ Some entry
  pub label : List ℕ
  pub label_at : slice_get k.table.list id ≡ Some label
  pub right : IsEntry (rules_at (kernel_view k)) k.table.list k.entries.items label entry
  pub unranked : entry.rank ≡ None

here : (k : Kernel) (at id : ℕ) (ns : List ℕ) → IsTrail k at ns → is_among id ns ≡ true → Here k ns id
here k at id ns trail member =
    let within = trail.within id member in
    let e = place_at k.entries.items id within in
    let l = place_at k.table.list id (let sized = k.right.sized in omega (arith, within, sized)) in
    record {
      member = member;
      entry = e.0;
      entry_at = e.1;
      label = l.0;
      label_at = l.1;
      right = k.right.each id l.0 e.0 l.1 e.1;
      unranked = sym (rank-here k.entries.items id e.0 e.1) ∙ trail.free id member;
    }

module _ (k : Kernel) (at id : ℕ) (ns : List ℕ) (trail : IsTrail k at ns) (is_at : slice_get ns at ≡ Some id) where
  member : is_among id ns ≡ true
  member = among-place ns at id is_at

  -- the list grows by what is needed, and that keeps the label open
  next : (h : Here k ns id) (ts : List ℕ) → ((t : ℕ) → is_among t ts ≡ true → Needed (rules_at (kernel_view k)) k.table.list k.entries.items h.label t)
      → sustains (width_in k) (is_held k.entries.items (with_all ns ts)) h.entry.upto h.entry.node ≡ true → IsTrail k (at + 1) (with_all ns ts)
  next h ts needs holds = record {
    goal = all-keeps k.goal ns ts trail.goal;
    within = λ n m. elim (all-cases n ns ts m) [
      | inl old ↦ trail.within n old
      | inr new ↦ let lt : n < length k.table.list = (needs n new).within in let sized = k.right.sized in omega (arith, lt, sized)
    ];
    free = λ n m. elim (all-cases n ns ts m) [ inl old ↦ trail.free n old | inr new ↦ (needs n new).free ];
    reached = λ n l m at_l g at_g. elim (all-cases n ns ts m) [
      | inl old ↦ trail.reached n l old at_l g at_g
      | inr new ↦ ∥∥₁_map (trail.reached id h.label member h.label_at g at_g) (λ r. (needs n new).follows (has g) l at_l r)
    ];
    kept = λ i n e lt at_n at_e. elim (cases_lt i at) [
      | inl before ↦
          let old = trail_at i before n at_n in
          sustains-mono (width_in k) (is_held k.entries.items ns) (is_held k.entries.items (with_all ns ts)) grown e.upto e.node (trail.kept i n e before old at_e)
      | inr not_before ↦
          let here_ : i ≡ at = omega (arith, lt, not_before) in
          let same_id : id ≡ n = same_Some id n (sym (all-prefix ns ts at id is_at) ∙ ap (slice_get (with_all ns ts)) (sym here_) ∙ at_n) in
          let same_entry : h.entry ≡ e = same_Some h.entry e (sym h.entry_at ∙ ap (slice_get k.entries.items) same_id ∙ at_e) in
          subst (λ (x : Entry). sustains (width_in k) (is_held k.entries.items (with_all ns ts)) x.upto x.node ≡ true) same_entry holds
    ];
  }
    where
      trail_at : (i : ℕ) → i < at → (n : ℕ) → slice_get (with_all ns ts) i ≡ Some n → slice_get ns i ≡ Some n
      trail_at i lt n at_n =
          let inside : at < length ns = slice_get_within ns at id is_at in
          let found = place_at ns i (omega (arith, lt, inside)) in
          found.1 ∙ sym (all-prefix ns ts i found.0 found.1) ∙ at_n

      grown : (t : ℕ) → is_held k.entries.items ns t ≡ true → is_held k.entries.items (with_all ns ts) t ≡ true
      grown t held = elim (or_cases (open_at k.entries.items t) (is_among t ns) held) [
        | inl open_ ↦ or_left (open_at k.entries.items t) (is_among t (with_all ns ts)) open_
        | inr there ↦ or_right (open_at k.entries.items t) (is_among t (with_all ns ts)) (all-keeps t ns ts there)
      ]

  -- a turn of the walk
  pub trail-turn : (hint : ℕ) → option_map_or (is_unfinished (width_in k) k.entries.items k.closed) (slice_get k.entries.items id) false ≡ false
      → IsTrail k (at + 1) (looked_at k.entries.items hint id ns)
  trail-turn hint done = subst (IsTrail k (at + 1)) (sym looked) (go h.entry.open refl)
    where
      h : Here k ns id
      h = here k at id ns trail member

      looked : looked_at k.entries.items hint id ns ≡ grow k.entries.items hint h.entry.node ns h.entry.open
      looked = ap (λ o. option_map_or (λ (e : Entry). if e.open then ns else with_all ns (needed_of k.entries.items hint e.node)) o ns) h.entry_at

      quiet : is_unfinished (width_in k) k.entries.items k.closed h.entry ≡ false
      quiet = sym (ap (λ o. option_map_or (is_unfinished (width_in k) k.entries.items k.closed) o false) h.entry_at) ∙ done

      go : (b : Bool) → h.entry.open ≡ b → IsTrail k (at + 1) (grow k.entries.items hint h.entry.node ns b)
      go true o = next h [] (λ t none. absurd (false≢true none))
          (sustains-mono (width_in k) (open_at k.entries.items) (is_held k.entries.items ns) (λ t open_. or_left (open_at k.entries.items t) (is_among t ns) open_) h.entry.upto h.entry.node
          (sym (stays-sustains (width_in k) k.entries.items h.entry.upto h.entry.node) ∙ h.right.opened o))
      go false o =
          let parts = unbegun (width_in k) k.entries.items k.closed h.entry h.unranked o quiet in
          next h (needed_of k.entries.items hint h.entry.node)
          (needed (rules_at (kernel_view k)) k.table.list k.entries.items k.closed k.right.below hint h.label h.entry.node h.right.says parts.1)
          (sustained k.entries.items k.closed k.right.below hint (width_in k) (is_held k.entries.items (with_all ns (needed_of k.entries.items hint h.entry.node))) h.entry.upto h.entry.node parts.0 parts.1
          (λ t there. or_right (open_at k.entries.items t) (is_among t (with_all ns (needed_of k.entries.items hint h.entry.node))) (all-has t ns (needed_of k.entries.items hint h.entry.node) there)))

  -- what the turn puts into the list is there
  pub turn-within : (hint : ℕ) → option_map_or (is_unfinished (width_in k) k.entries.items k.closed) (slice_get k.entries.items id) false ≡ false
      → (e : Entry) → slice_get k.entries.items id ≡ Some e → e.open ≡ false → All (λ t. t < length k.table.list) (needed_of k.entries.items hint e.node)
  turn-within hint done e at_e shut i d lt =
      let h = here k at id ns trail member in
      let same : h.entry ≡ e = same_Some h.entry e (sym h.entry_at ∙ at_e) in
      let quiet : is_unfinished (width_in k) k.entries.items k.closed e ≡ false = sym (ap (λ o. option_map_or (is_unfinished (width_in k) k.entries.items k.closed) o false) at_e) ∙ done in
      let unranked : e.rank ≡ None = ap (λ (x : Entry). x.rank) (sym same) ∙ h.unranked in
      let parts = unbegun (width_in k) k.entries.items k.closed e unranked shut quiet in
      let ts = needed_of k.entries.items hint e.node in
      let found = place_at ts i lt in
      let right : IsEntry (rules_at (kernel_view k)) k.table.list k.entries.items h.label e = subst (IsEntry (rules_at (kernel_view k)) k.table.list k.entries.items h.label) same h.right in
      subst (λ t. t < length k.table.list) (sym (get_or_from_slice_get ts i found.0 d found.1))
      (needed (rules_at (kernel_view k)) k.table.list k.entries.items k.closed k.right.below hint h.label e.node right.says parts.1 found.0 (among-place ts i found.0 found.1)).within

  -- what is left
  pub trail-left : option_map_or (is_unfinished (width_in k) k.entries.items k.closed) (slice_get k.entries.items id) false ≡ true → IsLeft k id
  trail-left left = record {
    within = let lt = trail.within id member in let sized = k.right.sized in omega (arith, lt, sized);
    unfinished = left;
    reached = λ l at_l. trail.reached id l member at_l;
  }

-- ---- the end

-- the labels of the list are open now, and nothing else changes
pub record Opens (ns : List ℕ) (old new : Kernel) : Type 0 where
  pub compiled : new.compiled ≡ old.compiled
  pub props : new.props ≡ old.props
  pub table : new.table ≡ old.table
  pub entries : new.entries.items ≡ open_all old.entries.items ns
  pub goal : new.goal ≡ old.goal
  pub reached : new.reached.items ≡ old.reached.items
  pub left : new.left ≡ old.left

module _ (k : Kernel) (ns : List ℕ) (trail : IsTrail k (length ns) ns) where
  unranked : (n : ℕ) (e : Entry) → is_among n ns ≡ true → slice_get k.entries.items n ≡ Some e → e.rank ≡ None
  unranked n e there at_e = sym (rank-here k.entries.items n e at_e) ∙ trail.free n there

  supported : (n : ℕ) (e : Entry) → is_among n ns ≡ true → slice_get k.entries.items n ≡ Some e
      → (e.rank ≡ None) × (stays_open (width_in k) (open_all k.entries.items ns) e.upto e.node ≡ true)
  supported n e there at_e =
      let place = place-among n ns there in
      let lt : place.0 < length ns = slice_get_within ns place.0 n place.1 in (
        unranked n e there at_e,
        stays-sustains (width_in k) (open_all k.entries.items ns) e.upto e.node
            ∙ sustains-mono (width_in k) (is_held k.entries.items ns) (open_at (open_all k.entries.items ns)) (λ t. held-open k.entries.items ns t (trail.within t)) e.upto e.node
            (trail.kept place.0 n e lt place.1 at_e),
      )

  pub trail-right : AreEntries (rules_at (kernel_view k)) k.table.list (open_all k.entries.items ns) k.closed
  trail-right = opening k.entries.items (λ n. is_among n ns) (open_all k.entries.items ns) (open_all-length k.entries.items ns) (open_all-get k.entries.items ns)
      (rules_at (kernel_view k)) k.table.list k.closed k.right (open_all-sum (λ (x : Entry). one_if_some x.rank) (λ e. refl) k.entries.items ns) supported

  pub trail-opens : open_at (open_all k.entries.items ns) k.goal ≡ true
  trail-opens = held-open k.entries.items ns k.goal (trail.within k.goal) (or_right (open_at k.entries.items k.goal) (is_among k.goal ns) trail.goal)

  module _ (new : Kernel) (opens : Opens ns k new) (begun : IsBegun k) where
    same_work : work new ≡ work k
    same_work =
        let rules = ap₂ rules_in opens.compiled opens.props in
        ap₂ (λ w n. effort w new.entries.items + (w + 2) * n) (ap width_of rules) opens.left
        ∙ ap (λ es. effort (width_in k) es + (width_in k + 2) * k.left) opens.entries
        ∙ ap (λ n. n + (width_in k + 2) * k.left) (open_all-sum (effort_of (width_in k)) (λ e. refl) k.entries.items ns)

    stays : (n : ℕ) (e : Entry) → slice_get k.entries.items n ≡ Some e → is_settled e ≡ true → is_among n ns ≡ true → e.open ≡ true
    stays n e at_e settled there = sym (ap (λ o. is_some_rank o || e.open) (unranked n e there at_e)) ∙ settled

    pub trail-goes : Goes k new
    trail-goes = record {
      keeps = record {
        closure = opens.compiled;
        props = opens.props;
        labels = λ n l h. ap (λ (t : Labels). slice_get t.list n) opens.table ∙ h;
        settled = λ n e h s. ap (λ es. slice_get es n) opens.entries ∙ open_all-get k.entries.items ns n ∙ ap (option_map (opened_if (is_among n ns))) h
            ∙ ap Some (opened-same (is_among n ns) e (stays n e h s));
      };
      goal = opens.goal;
      begun = subst (λ n. n < length new.table.list) (sym opens.goal) (subst (λ (t : Labels). k.goal < length t.list) (sym opens.table) begun);
      room = ap₂ (λ (t : Labels) n. length t.list + n) opens.table opens.left;
      less = let is = opens.left in omega (arith, is);
      marks = λ n h. ap (λ ms. slice_get ms n) opens.reached ∙ h;
      new_marks = λ n h lt. absurd (let is : length new.table.list ≡ length k.table.list = ap (λ (t : Labels). length t.list) opens.table in omega (arith, h, lt, is));
      work = let is = same_work in omega (arith, is);
    }

-- ---- what is left is marked

pub marked-left : (id : ℕ) (old new : Kernel) → Marks id old new → IsLeft old id → unfinished_at new id ≡ true
marked-left id old new marks left =
    and_from (option_map_or (λ b. b) (slice_get new.reached.items id) false)
    (option_map_or (is_unfinished (width_in new) new.entries.items new.closed) (slice_get new.entries.items id) false)
    (ap (λ o. option_map_or (λ b. b) o false) mark) (ap (λ o. option_map_or (is_unfinished (width_in new) new.entries.items new.closed) o false) (ap (λ es. slice_get es id) marks.entries) ∙ same ∙ left.unfinished)
  where
    was : (b : Bool) × (slice_get old.reached.items id ≡ Some b)
    was = place_at old.reached.items id (let lt : id < length old.table.list = left.within in let sized = old.marked in omega (arith, lt, sized))

    mark : slice_get new.reached.items id ≡ Some true
    mark = ap (λ ms. slice_get ms id) marks.reached ∙ get_set_same old.reached.items id true was.0 was.1

    widths : width_in new ≡ width_in old
    widths = ap width_of (ap₂ rules_in marks.compiled marks.props)

    count : new.closed ≡ old.closed
    count = new.right.few ∙ ap (sum_by (λ (x : Entry). one_if_some x.rank)) marks.entries ∙ sym old.right.few

    same : option_map_or (is_unfinished (width_in new) new.entries.items new.closed) (slice_get old.entries.items id) false
        ≡ option_map_or (is_unfinished (width_in old) old.entries.items old.closed) (slice_get old.entries.items id) false
    same = ap (λ w. option_map_or (is_unfinished w new.entries.items new.closed) (slice_get old.entries.items id) false) widths
        ∙ ap (λ es. option_map_or (is_unfinished (width_in old) es new.closed) (slice_get old.entries.items id) false) marks.entries
        ∙ ap (λ n. option_map_or (is_unfinished (width_in old) old.entries.items n) (slice_get old.entries.items id) false) count

-- ---- what the code sees

-- the code's test of what is left
pub left-told : (k : Kernel) (es : List Entry) (width id : ℕ) (b : Bool) → es ≡ k.entries.items → width ≡ length k.compiled.concepts
    → b ≡ option_map_or (is_unfinished width es k.closed) (slice_get es id) false → b ≡ option_map_or (is_unfinished (width_in k) k.entries.items k.closed) (slice_get k.entries.items id) false
left-told k es width id b is wide said = said
    ∙ ap (λ w. option_map_or (is_unfinished w es k.closed) (slice_get es id) false) (wide ∙ sym (length-map k.compiled.concepts (shape_of k.compiled.concepts)))
    ∙ ap (λ xs. option_map_or (is_unfinished (width_in k) xs k.closed) (slice_get xs id) false) is

pub within-told : (k : Kernel) (hint at id bound : ℕ) (ns : List ℕ) (es : List Entry) → IsTrail k at ns → slice_get ns at ≡ Some id → es ≡ k.entries.items → bound ≡ length k.table.list
    → option_map_or (is_unfinished (width_in k) k.entries.items k.closed) (slice_get k.entries.items id) false ≡ false
    → (e : Entry) → slice_get es id ≡ Some e → e.open ≡ false → All (λ t. t < bound) (needed_of es hint e.node)
within-told k hint at id bound ns es trail is_at is sized done e at_e shut =
    subst (λ xs. All (λ t. t < bound) (needed_of xs hint e.node)) (sym is) (subst (λ n. All (λ t. t < n) (needed_of k.entries.items hint e.node)) (sym sized)
    (turn-within k at id ns trail is_at hint done e (ap (λ xs. slice_get xs id) (sym is) ∙ at_e) shut))

pub trail-whole : (k : Kernel) (at : ℕ) (ns : List ℕ) → slice_get ns at ≡ None → IsTrail k at ns → IsTrail k (length ns) ns
trail-whole k at ns none trail = record {
  goal = trail.goal;
  within = trail.within;
  free = trail.free;
  reached = trail.reached;
  kept = λ i n e lt at_n at_e. trail.kept i n e (let past = past_all ns at none in omega (arith, lt, past)) at_n at_e;
}
  where
    past_all : (xs : List ℕ) (i : ℕ) → slice_get xs i ≡ None → length xs ≤ i
    past_all [] i h = omega arith
    past_all (x ∷ xs) zero h = cc
    past_all (x ∷ xs) (suc i) h = let rest = past_all xs i h in omega (arith, rest)

pub seconds-within : (hint bound : ℕ) (es : List Entry) (n : Node) (ps : List (ℕ × ℕ)) → n ≡ node.Done ps → All (λ t. t < bound) (needed_of es hint n) → All (λ p. p.1 < bound) ps
seconds-within hint bound es n ps is h = go ps (subst (λ x. All (λ t. t < bound) (needed_of es hint x)) is h)
  where
    go : (ps : List (ℕ × ℕ)) → All (λ t. t < bound) (map (λ p. p.1) ps) → All (λ p. p.1 < bound) ps
    go [] h = All-nil (λ p. p.1 < bound)
    go (p ∷ ps) h = All-cons (λ p. p.1 < bound) p ps (All-head (λ t. t < bound) p.1 (map (λ p. p.1) ps) h) (go ps (All-tail (λ t. t < bound) p.1 (map (λ p. p.1) ps) h))

pub trail-within : (k : Kernel) (at : ℕ) (ns ids : List ℕ) → IsTrail k at ns → ids ≡ ns → All (λ t. t < length k.entries.items) ids
trail-within k at ns ids trail is i d lt =
    let found = place_at ids i lt in
    subst (λ t. t < length k.entries.items) (sym (get_or_from_slice_get ids i found.0 d found.1))
    (trail.within found.0 (among-place ns i found.0 (ap (λ xs. slice_get xs i) (sym is) ∙ found.1)))
