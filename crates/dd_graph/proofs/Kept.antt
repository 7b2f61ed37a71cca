-- What stays right where labels are added, one entry is changed that was neither closed nor open, and labels become open.
use Rattle.std.proofs.Common.{◌≡◌, ◌≢◌, ℕ, zero, suc, ◌<◌, ◌≤◌, ◌+◌, ◌-◌, ◌==◌, Bool, true, false, ◌&&◌, ◌||◌, List, [], ◌∷◌, ◌++◌, length, Option, None, Some, slice_get, slice_set, refl, sym, ap, subst, ◌∙◌, arith, inl, inr, ◌⊎◌, sum_by, slice_index_or}
use Rattle.std.specs.List.{list_any, list_all}
use Rattle.std.specs.Option.{option_map, option_map_or}
use Rattle.std.proofs.lemmas.Bool.{cases_eq, false≢true, and_parts, and_from, or_left, or_right, or_cases}
use Rattle.std.proofs.lemmas.List.{length-set}
use Rattle.std.proofs.lemmas.List.Sums.{sum_by-set, sum_by_push}
use Rattle.std.proofs.lemmas.Option.{slice_get_within, get_or_from_slice_get}
use Rattle.std.proofs.Math.ListN.{length-append}
use Rattle.dd_rules.specs.Least.{IsLeastSaturated}
use Rattle.dd_rules.specs.Numbers.{Rules, IsSuccessor}
use Rattle.dd_set.specs.Words.{has}
use Rattle.dd_table.specs.Labels.{KeepsLabels}
use Rattle.dd_graph.specs.declared.node.Entry.{Entry}
use Rattle.dd_graph.specs.declared.node.Node.{Node}
use Rattle.dd_graph.specs.declared.node.Node.TheVariants as node
use Rattle.dd_graph.specs.Right.{IsLeastAt, IsSuccessorAt, IsNode, IsEntry, AreEntries, rank_at, open_at, is_below, closes, stays_open, width_of, one_if_some}
use Rattle.dd_graph.proofs.Lists.{same_Some, none_is_not, place_at, get_set_same, get_set_other, get_push_old, get_push_new, get_push}

-- there are more labels, at their places, and what was closed or open is so
pub record Grows (labels : List (List ℕ)) (entries : List Entry) (more : List (List ℕ)) (then_ : List Entry) : Type 0 where
  pub stay : KeepsLabels labels more
  pub longer : length labels ≤ length more
  pub ranks : (t j : ℕ) → rank_at entries t ≡ Some j → rank_at then_ t ≡ Some j
  pub opens : (t : ℕ) → open_at entries t ≡ true → open_at then_ t ≡ true

-- ---- what a node says stays true where labels are added

module _ (r : Rules) (labels more : List (List ℕ)) (keeps : KeepsLabels labels more) (longer : length labels ≤ length more) where
  -- the label at an old place is the old one
  old_label : (t : ℕ) → t < length labels → (m : List ℕ) → slice_get more t ≡ Some m → slice_get labels t ≡ Some m
  old_label t h m e = let found = place_at labels t h in found.1 ∙ sym (keeps t found.0 found.1) ∙ e

  pub least_kept : (p : ℕ → Bool) (t : ℕ) → IsLeastAt r labels p t → IsLeastAt r more p t
  least_kept p t h = record {
    there = let lt : t < length labels = h.there in omega (arith, lt, longer);
    least = λ m e. h.least m (old_label t h.there m e);
  }

  pub successor_kept : (p : ℕ → Bool) (n t : ℕ) → IsSuccessorAt r labels p n t → IsSuccessorAt r more p n t
  successor_kept p n t h = record {
    there = let lt : t < length labels = h.there in omega (arith, lt, longer);
    restricts = h.restricts;
    follows = λ role c m s e. h.follows role c m s (old_label t h.there m e);
  }

  pub node_kept : (l : List ℕ) (n : Node) → IsNode r labels l n → IsNode r more l n
  node_kept l n h = record {
    clash = h.clash;
    larger = λ t is. (least_kept (has l) t (h.larger t is).0, λ e. (h.larger t is).1 (old_label t (h.larger t is).0.there l e));
    clear_split = h.clear_split;
    calls = h.calls;
    as_many = h.as_many;
    split = λ s to is i c t a b. least_kept _ t (h.split s to is i c t a b);
    clear_done = h.clear_done;
    done = λ to is i n t a. successor_kept (has l) n t (h.done to is i n t a);
  }

-- ---- what ranks and open flags say stays true

module _ (entries then_ : List Entry) where
  module _ (ranks : (t j : ℕ) → rank_at entries t ≡ Some j → rank_at then_ t ≡ Some j) where
    below-of : (k : ℕ) (o : Option ℕ) → is_below k o ≡ true → (j : ℕ) × (o ≡ Some j)
    below-of k None h = absurd (false≢true h)
    below-of k (Some j) h = (j, refl)

    below_kept : (k t : ℕ) → is_below k (rank_at entries t) ≡ true → is_below k (rank_at then_ t) ≡ true
    below_kept k t h = let found = below-of k (rank_at entries t) h in
        ap (is_below k) (ranks t found.0 found.1 ∙ sym found.1) ∙ h

    all_below_kept : (k : ℕ) (ts : List ℕ) → list_all (λ t. is_below k (rank_at entries t)) ts ≡ true → list_all (λ t. is_below k (rank_at then_ t)) ts ≡ true
    all_below_kept k [] h = refl
    all_below_kept k (t ∷ ts) h = let both = and_parts _ _ h in and_from _ _ (below_kept k t both.0) (all_below_kept k ts both.1)

    some_below_kept : (k : ℕ) (ts : List (ℕ × ℕ)) → list_any (λ p. is_below k (rank_at entries p.1)) ts ≡ true → list_any (λ p. is_below k (rank_at then_ p.1)) ts ≡ true
    some_below_kept k [] h = h
    some_below_kept k (t ∷ ts) h = elim (or_cases _ _ h) [
      | inl first ↦ or_left _ _ (below_kept k t.1 first)
      | inr rest ↦ or_right _ _ (some_below_kept k ts rest)
    ]

    pub closes_kept : (k : ℕ) (n : Node) → closes entries k n ≡ true → closes then_ k n ≡ true
    closes_kept k node.Fresh h = h
    closes_kept k (node.Clash c) h = refl
    closes_kept k (node.Larger t) h = below_kept k t h
    closes_kept k (node.Split s to) h = all_below_kept k to h
    closes_kept k (node.Done to) h = some_below_kept k to h

  module _ (opens : (t : ℕ) → open_at entries t ≡ true → open_at then_ t ≡ true) where
    some_open_kept : (ts : List ℕ) → list_any (open_at entries) ts ≡ true → list_any (open_at then_) ts ≡ true
    some_open_kept [] h = h
    some_open_kept (t ∷ ts) h = elim (or_cases _ _ h) [
      | inl first ↦ or_left _ _ (opens t first)
      | inr rest ↦ or_right _ _ (some_open_kept ts rest)
    ]

    all_open_kept : (ts : List (ℕ × ℕ)) → list_all (λ p. open_at entries p.1) ts ≡ true → list_all (λ p. open_at then_ p.1) ts ≡ true
    all_open_kept [] h = refl
    all_open_kept (t ∷ ts) h = let both = and_parts _ _ h in and_from _ _ (opens t.1 both.0) (all_open_kept ts both.1)

    pub stays_kept : (width upto : ℕ) (n : Node) → stays_open width entries upto n ≡ true → stays_open width then_ upto n ≡ true
    stays_kept width upto node.Fresh h = h
    stays_kept width upto (node.Clash c) h = h
    stays_kept width upto (node.Larger t) h = opens t h
    stays_kept width upto (node.Split s to) h = some_open_kept to h
    stays_kept width upto (node.Done to) h = let both = and_parts _ _ h in and_from _ _ both.0 (all_open_kept to both.1)

-- what is kept of a label stays right
pub entry_kept : (r : Rules) (labels more : List (List ℕ)) (entries then_ : List Entry) → Grows labels entries more then_ → (l : List ℕ) (e : Entry)
    → IsEntry r labels entries l e → IsEntry r more then_ l e
entry_kept r labels more entries then_ g l e h = record {
  says = node_kept r labels more g.stay g.longer l e.node h.says;
  ranked = λ k is. closes_kept entries then_ g.ranks k e.node (h.ranked k is);
  complete = h.complete;
  covered = h.covered;
  unranked = h.unranked;
  opened = λ is. stays_kept entries then_ g.opens (width_of r) e.upto e.node (h.opened is);
  clear = h.clear;
}

-- ---- one label more

rank_here : (entries : List Entry) (k : ℕ) (e : Entry) → slice_get entries k ≡ Some e → rank_at entries k ≡ e.rank
rank_here entries k e is = ap (λ o. option_map_or (λ (x : Entry). x.rank) o None) is

open_here : (entries : List Entry) (k : ℕ) (e : Entry) → slice_get entries k ≡ Some e → open_at entries k ≡ e.open
open_here entries k e is = ap (λ o. option_map_or (λ (x : Entry). x.open) o false) is

-- a rank is that of an entry
rank_entry : (entries : List Entry) (k j : ℕ) → rank_at entries k ≡ Some j → (e : Entry) × (slice_get entries k ≡ Some e) × (e.rank ≡ Some j)
rank_entry entries k j h = go (slice_get entries k) refl
  where
    go : (o : Option Entry) → slice_get entries k ≡ o → (e : Entry) × (slice_get entries k ≡ Some e) × (e.rank ≡ Some j)
    go None is = absurd (none_is_not j (sym (ap (λ o. option_map_or (λ (x : Entry). x.rank) o None) is) ∙ h))
    go (Some e) is = (e, is, sym (rank_here entries k e is) ∙ h)

open_entry : (entries : List Entry) (k : ℕ) → open_at entries k ≡ true → (e : Entry) × (slice_get entries k ≡ Some e) × (e.open ≡ true)
open_entry entries k h = go (slice_get entries k) refl
  where
    go : (o : Option Entry) → slice_get entries k ≡ o → (e : Entry) × (slice_get entries k ≡ Some e) × (e.open ≡ true)
    go None is = absurd (false≢true (sym (ap (λ o. option_map_or (λ (x : Entry). x.open) o false) is) ∙ h))
    go (Some e) is = (e, is, sym (open_here entries k e is) ∙ h)

pub grows-push : (labels : List (List ℕ)) (entries : List Entry) (l : List ℕ) (e : Entry) → Grows labels entries (labels ++ l ∷ []) (entries ++ e ∷ [])
grows-push labels entries l e = record {
  stay = λ k m h. get_push_old labels l k m h;
  longer = omega (arith, length-append labels (l ∷ []));
  ranks = λ t j h. let found = rank_entry entries t j h in rank_here (entries ++ e ∷ []) t found.0 (get_push_old entries e t found.0 found.1) ∙ found.2;
  opens = λ t h. let found = open_entry entries t h in open_here (entries ++ e ∷ []) t found.0 (get_push_old entries e t found.0 found.1) ∙ found.2;
}

-- a label and an entry without a rank are added
pub append : (r : Rules) (labels : List (List ℕ)) (entries : List Entry) (closed : ℕ) (l : List ℕ) (e : Entry) → AreEntries r labels entries closed → e.rank ≡ None
    → IsEntry r (labels ++ l ∷ []) (entries ++ e ∷ []) l e → AreEntries r (labels ++ l ∷ []) (entries ++ e ∷ []) closed
append r labels entries closed l e all unranked made = record {
  sized = omega (arith, length-append labels (l ∷ []), length-append entries (e ∷ []), all.sized);
  few = all.few ∙ sym (sum_by_push (λ (x : Entry). one_if_some x.rank) entries e ∙ omega (arith, ap one_if_some unranked));
  below = λ k j h. all.below k j (old_rank k j h);
  apart = λ k m j h i. all.apart k m j (old_rank k j h) (old_rank m j i);
  each = λ k m x is_m is_x. each k m x is_m is_x;
}
  where
    grown : Grows labels entries (labels ++ l ∷ []) (entries ++ e ∷ [])
    grown = grows-push labels entries l e

    old_rank : (k j : ℕ) → rank_at (entries ++ e ∷ []) k ≡ Some j → rank_at entries k ≡ Some j
    old_rank k j h =
        let found = rank_entry (entries ++ e ∷ []) k j h in
        get_push (λ n x. x.rank ≡ Some j → rank_at entries n ≡ Some j) entries e
        (λ n x is ranked. rank_here entries n x is ∙ ranked) (λ ranked. absurd (none_is_not j (sym unranked ∙ ranked))) k found.0 found.1 found.2

    each : (k : ℕ) (m : List ℕ) (x : Entry) → slice_get (labels ++ l ∷ []) k ≡ Some m → slice_get (entries ++ e ∷ []) k ≡ Some x
        → IsEntry r (labels ++ l ∷ []) (entries ++ e ∷ []) m x
    each k m x is_m is_x = get_push (λ n x. (m : List ℕ) → slice_get (labels ++ l ∷ []) n ≡ Some m → IsEntry r (labels ++ l ∷ []) (entries ++ e ∷ []) m x) entries e
        (λ n x is m is_m.
        let lt : n < length entries = slice_get_within entries n x is in
        let found = place_at labels n (omega (arith, lt, all.sized)) in
        let same : found.0 ≡ m = same_Some found.0 m (sym (get_push_old labels l n found.0 found.1) ∙ is_m) in
        subst (λ w. IsEntry r (labels ++ l ∷ []) (entries ++ e ∷ []) w x) same (entry_kept r labels (labels ++ l ∷ []) entries (entries ++ e ∷ []) grown found.0 x (all.each n found.0 x found.1 is)))
        (λ m is_m.
        let here : slice_get (labels ++ l ∷ []) (length entries) ≡ Some l = ap (slice_get (labels ++ l ∷ [])) all.sized ∙ get_push_new labels l in
        subst (λ w. IsEntry r (labels ++ l ∷ []) (entries ++ e ∷ []) w e) (same_Some l m (sym here ∙ is_m)) made) k x is_x m is_m

-- ---- one entry changes that was neither closed nor open

module _ (entries : List Entry) (id : ℕ) (old new : Entry) (was : slice_get entries id ≡ Some old) (unranked : old.rank ≡ None) where
  same_elsewhere : {X : Type 0} (f : Entry → X) (d : X) (t : ℕ) → (t ≡ id → ⊥) → option_map_or f (slice_get (slice_set entries id new) t) d ≡ option_map_or f (slice_get entries t) d
  same_elsewhere f d t other = ap (λ o. option_map_or f o d) (get_set_other entries id t new other)

  rank_was : rank_at entries id ≡ None
  rank_was = rank_here entries id old was ∙ unranked

  rank_new : rank_at (slice_set entries id new) id ≡ new.rank
  rank_new = rank_here (slice_set entries id new) id new (get_set_same entries id new old was)

  not_there : (t j : ℕ) → rank_at entries t ≡ Some j → t ≡ id → ⊥
  not_there t j h e = none_is_not j (sym (ap (rank_at entries) e ∙ rank_was) ∙ h)

  ranks_kept : (t j : ℕ) → rank_at entries t ≡ Some j → rank_at (slice_set entries id new) t ≡ Some j
  ranks_kept t j h = same_elsewhere (λ e. e.rank) None t (not_there t j h) ∙ h

  -- where it was not open either, what is open stays so
  module _ (shut : old.open ≡ false) where
    opens_kept : (t : ℕ) → open_at entries t ≡ true → open_at (slice_set entries id new) t ≡ true
    opens_kept t h = same_elsewhere (λ e. e.open) false t
        (λ e. false≢true (sym (ap (open_at entries) e ∙ open_here entries id old was ∙ shut) ∙ h)) ∙ h

    pub grows-set : (labels : List (List ℕ)) → Grows labels entries labels (slice_set entries id new)
    grows-set labels = record {
      stay = λ n l h. h;
      longer = omega arith;
      ranks = ranks_kept;
      opens = opens_kept;
    }

    each-set : (r : Rules) (labels : List (List ℕ)) (closed : ℕ) → AreEntries r labels entries closed
        → ((l : List ℕ) → slice_get labels id ≡ Some l → IsEntry r labels entries l old → IsEntry r labels (slice_set entries id new) l new)
        → (k : ℕ) (l : List ℕ) (e : Entry) → slice_get labels k ≡ Some l → slice_get (slice_set entries id new) k ≡ Some e → IsEntry r labels (slice_set entries id new) l e
    each-set r labels closed all made k l e is_l is_e = elim (cases_eq k id) [
      | inl here ↦
          let is : new ≡ e = same_Some new e (sym (get_set_same entries id new old was) ∙ (ap (slice_get (slice_set entries id new)) (sym here) ∙ is_e)) in
          let at_id : slice_get labels id ≡ Some l = ap (slice_get labels) (sym here) ∙ is_l in
          subst (IsEntry r labels (slice_set entries id new) l) is (made l at_id (all.each id l old at_id was))
      | inr other ↦ entry_kept r labels labels entries (slice_set entries id new) (grows-set labels) l e (all.each k l e is_l (sym (get_set_other entries id k new other) ∙ is_e))
    ]

    ranked-sum : sum_by (λ (x : Entry). one_if_some x.rank) (slice_set entries id new) ≡ sum_by (λ (x : Entry). one_if_some x.rank) entries + one_if_some new.rank
    ranked-sum =
        let within : id < length entries = slice_get_within entries id old was in
        let here : slice_index_or entries id old ≡ old = get_or_from_slice_get entries id old old was in
        let sums = sum_by-set (λ (x : Entry). one_if_some x.rank) entries id new old within in
        let none : one_if_some (slice_index_or entries id old).rank ≡ 0 = ap (λ (x : Entry). one_if_some x.rank) here ∙ ap one_if_some unranked in
        omega (arith, sums, none)

    -- the new entry has no rank
    pub change : (r : Rules) (labels : List (List ℕ)) (closed : ℕ) → AreEntries r labels entries closed → new.rank ≡ None
        → ((l : List ℕ) → slice_get labels id ≡ Some l → IsEntry r labels entries l old → IsEntry r labels (slice_set entries id new) l new)
        → AreEntries r labels (slice_set entries id new) closed
    change r labels closed all none made = record {
      sized = length-set entries id new ∙ all.sized;
      few = let sum = ranked-sum in let zero_more : one_if_some new.rank ≡ 0 = ap one_if_some none in omega (arith, all.few, sum, zero_more);
      below = λ k j h. all.below k j (old_rank k j h);
      apart = λ k m j h i. all.apart k m j (old_rank k j h) (old_rank m j i);
      each = each-set r labels closed all made;
    }
      where
        old_rank : (k j : ℕ) → rank_at (slice_set entries id new) k ≡ Some j → rank_at entries k ≡ Some j
        old_rank k j h = sym (same_elsewhere (λ e. e.rank) None k (λ e. none_is_not j (sym (ap (rank_at (slice_set entries id new)) e ∙ rank_new ∙ none) ∙ h))) ∙ h

    -- the new entry has the next rank
    pub change-ranked : (r : Rules) (labels : List (List ℕ)) (closed : ℕ) → AreEntries r labels entries closed → new.rank ≡ Some closed
        → ((l : List ℕ) → slice_get labels id ≡ Some l → IsEntry r labels entries l old → IsEntry r labels (slice_set entries id new) l new)
        → AreEntries r labels (slice_set entries id new) (closed + 1)
    change-ranked r labels closed all next made = record {
      sized = length-set entries id new ∙ all.sized;
      few = let sum = ranked-sum in let one_more : one_if_some new.rank ≡ 1 = ap one_if_some next in omega (arith, all.few, sum, one_more);
      below = λ k j h. elim (cases_rank k j h) [
        | inl here ↦ omega (arith, here.1)
        | inr there ↦ let lt : j < closed = all.below k j there in omega (arith, lt)
      ];
      apart = λ k m j h i. elim (cases_rank k j h) [
        | inl here ↦ elim (cases_rank m j i) [
          | inl too ↦ here.0 ∙ sym too.0
          | inr there ↦ let lt : j < closed = all.below m j there in absurd (omega (arith, lt, here.1))
        ]
        | inr there ↦ elim (cases_rank m j i) [
          | inl too ↦ let lt : j < closed = all.below k j there in absurd (omega (arith, lt, too.1))
          | inr too ↦ all.apart k m j there too
        ]
      ];
      each = each-set r labels closed all made;
    }
      where
        cases_rank : (k j : ℕ) → rank_at (slice_set entries id new) k ≡ Some j → ((k ≡ id) × (j ≡ closed)) ⊎ (rank_at entries k ≡ Some j)
        cases_rank k j h = elim (cases_eq k id) [
          | inl here ↦ inl (here, same_Some j closed (sym h ∙ ap (rank_at (slice_set entries id new)) here ∙ rank_new ∙ next))
          | inr other ↦ inr (sym (same_elsewhere (λ e. e.rank) None k other) ∙ h)
        ]

-- ---- more labels are open

abbrev pub opened_if : Bool → Entry → Entry
opened_if b e = record e { «open» = e.open || b }

module _ (entries : List Entry) (now : ℕ → Bool) (then_ : List Entry) (sized : length then_ ≡ length entries)
    (flags : (k : ℕ) → slice_get then_ k ≡ option_map (opened_if (now k)) (slice_get entries k)) where
  rank_same : (t : ℕ) → rank_at then_ t ≡ rank_at entries t
  rank_same t = ap (λ o. option_map_or (λ (x : Entry). x.rank) o None) (flags t) ∙ go (slice_get entries t)
    where
      go : (o : Option Entry) → option_map_or (λ (x : Entry). x.rank) (option_map (opened_if (now t)) o) None ≡ option_map_or (λ (x : Entry). x.rank) o None
      go None = refl
      go (Some e) = refl

  opens_more : (t : ℕ) → open_at entries t ≡ true → open_at then_ t ≡ true
  opens_more t h =
      let found = open_entry entries t h in
      ap (λ o. option_map_or (λ (x : Entry). x.open) o false) (flags t ∙ ap (option_map (opened_if (now t))) found.1) ∙ or_left found.0.open (now t) found.2

  -- where what is open now has no rank and is kept open by others
  pub opening : (r : Rules) (labels : List (List ℕ)) (closed : ℕ) → AreEntries r labels entries closed
      → sum_by (λ (x : Entry). one_if_some x.rank) then_ ≡ sum_by (λ (x : Entry). one_if_some x.rank) entries
      → ((k : ℕ) (e : Entry) → now k ≡ true → slice_get entries k ≡ Some e → (e.rank ≡ None) × (stays_open (width_of r) then_ e.upto e.node ≡ true))
      → AreEntries r labels then_ closed
  opening r labels closed all sums kept = record {
    sized = sized ∙ all.sized;
    few = all.few ∙ sym sums;
    below = λ k j h. all.below k j (sym (rank_same k) ∙ h);
    apart = λ k m j h i. all.apart k m j (sym (rank_same k) ∙ h) (sym (rank_same m) ∙ i);
    each = λ k l e is_l is_e.
        let lt : k < length then_ = slice_get_within then_ k e is_e in
        let found = place_at entries k (omega (arith, lt, sized)) in
        let is : opened_if (now k) found.0 ≡ e = same_Some (opened_if (now k) found.0) e (sym (flags k ∙ ap (option_map (opened_if (now k))) found.1) ∙ is_e) in
        subst (IsEntry r labels then_ l) is (each k l found.0 found.1 (entry_kept r labels labels entries then_ grown l found.0 (all.each k l found.0 is_l found.1)));
  }
    where
      grown : Grows labels entries labels then_
      grown = record {
        stay = λ n l h. h;
        longer = omega arith;
        ranks = λ t j h. rank_same t ∙ h;
        opens = opens_more;
      }

      each : (k : ℕ) (l : List ℕ) (e : Entry) → slice_get entries k ≡ Some e → IsEntry r labels then_ l e → IsEntry r labels then_ l (opened_if (now k) e)
      each k l e is h = record {
        says = h.says;
        ranked = h.ranked;
        complete = h.complete;
        covered = h.covered;
        unranked = λ o. elim (or_cases e.open (now k) o) [ inl old ↦ h.unranked old | inr new ↦ (kept k e new is).0 ];
        opened = λ o. elim (or_cases e.open (now k) o) [ inl old ↦ h.opened old | inr new ↦ (kept k e new is).1 ];
        clear = h.clear;
      }
