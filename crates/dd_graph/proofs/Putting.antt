-- A label that is added, and one that is known to be reached now.
use Rattle.std.proofs.Common.{◌≡◌, ℕ, zero, suc, ◌<◌, ◌≤◌, ◌+◌, ◌*◌, Bool, true, false, ◌||◌, List, [], ◌∷◌, ◌++◌, length, Option, None, Some, slice_get, slice_set, refl, sym, ap, ap₂, subst, ◌∙◌, arith, inl, inr, IsTrue, vec_len, not, if◌then◌else◌}
use Rattle.std.specs.Option.{option_map_or}
use Rattle.std.proofs.lemmas.Bool.{cases_eq, cases_lt, false≢true}
use Rattle.std.proofs.lemmas.List.{length-set}
use Rattle.std.proofs.lemmas.List.Sums.{sum_by_push}
use Rattle.std.proofs.lemmas.Option.{slice_get_within}
use Rattle.std.proofs.Math.ListN.{length-append}
use Rattle.dd_rules.specs.Compiled.{rules_in}
use Rattle.dd_rules.specs.Numbers.{Rules}
use Rattle.dd_rules.specs.declared.clash.Clash.{Clash}
use Rattle.dd_set.specs.Words.{has}
use Rattle.dd_table.specs.Labels.{Labels, has_label, with_label, number_of}
use Rattle.dd_table.proofs.Numbering.{number_of-with_label, number_of-new, has_label-slice_get}
use Rattle.dd_graph.specs.declared.kernel.Kernel.{Kernel}
use Rattle.dd_graph.specs.declared.node.Entry.{Entry}
use Rattle.dd_graph.specs.declared.node.Node.{Node}
use Rattle.dd_graph.specs.declared.node.Node.TheVariants as node
use Rattle.dd_graph.specs.Goes.{width_in, work, IsBegun, IsReachedNow, Goes, Puts, Idles, Marks, Adds, Sets, blank}
use Rattle.dd_graph.specs.Reached.{IsReachedIn, AreReached}
use Rattle.dd_graph.specs.Right.{IsClear, IsNode, IsEntry, AreEntries, effort, effort_of, width_of}
use Rattle.dd_graph.specs.View.{kernel_view, rules_at, Keeps, is_settled}
use Rattle.dd_graph.proofs.Going.{goes-trans, sets-goes}
use Rattle.dd_graph.proofs.Kept.{append}
use Rattle.dd_graph.proofs.Lists.{same_Some, none_is_not, place_at, get_set_same, get_set_other, get_push_old, get_push_new, get_push}

-- ---- marks

-- the label at the place is reached, so it may be marked
pub reached-set : (r : Rules) (labels : List (List ℕ)) (marks : List Bool) (goal id : ℕ) → AreReached r labels marks goal
    → ((g l : List ℕ) → slice_get labels id ≡ Some l → slice_get labels goal ≡ Some g → IsReachedIn r (has g) (has l))
    → AreReached r labels (slice_set marks id true) goal
reached-set r labels marks goal id all new k g l marked is_g is_l = elim (cases_eq k id) [
  | inl here ↦ new g l (ap (slice_get labels) (sym here) ∙ is_l) is_g
  | inr other ↦ all k g l (sym (get_set_other marks id k true other) ∙ marked) is_g is_l
]

-- behind the others a label is marked that is reached
pub reached-push : (r : Rules) (labels : List (List ℕ)) (marks : List Bool) (goal : ℕ) (l : List ℕ) → AreReached r labels marks goal → goal < length labels
    → length marks ≡ length labels → ((g : List ℕ) → slice_get labels goal ≡ Some g → IsReachedIn r (has g) (has l))
    → AreReached r (labels ++ l ∷ []) (marks ++ true ∷ []) goal
reached-push r labels marks goal l all lt sized new k g m marked is_g is_m =
    let goal_there = place_at labels goal lt in
    let same : goal_there.0 ≡ g = same_Some goal_there.0 g (sym (get_push_old labels l goal goal_there.0 goal_there.1) ∙ is_g) in
    let old_g : slice_get labels goal ≡ Some g = goal_there.1 ∙ ap Some same in
    get_push (λ n x. x ≡ true → (m : List ℕ) → slice_get (labels ++ l ∷ []) n ≡ Some m → IsReachedIn r (has g) (has m)) marks true
    (λ n x is yes_ m is_m.
    let below : n < length marks = slice_get_within marks n x is in
    let there = place_at labels n (omega (arith, below, sized)) in
    let this : there.0 ≡ m = same_Some there.0 m (sym (get_push_old labels l n there.0 there.1) ∙ is_m) in
    all n g m (is ∙ ap Some yes_) old_g (there.1 ∙ ap Some this))
    (λ yes_ m is_m.
    let here : slice_get (labels ++ l ∷ []) (length marks) ≡ Some l = ap (slice_get (labels ++ l ∷ [])) sized ∙ get_push_new labels l in
    subst (λ w. IsReachedIn r (has g) (has w)) (same_Some l m (sym here ∙ is_m)) (new g old_g)) k true marked refl m is_m

-- ---- a mark

module _ (id : ℕ) (old new : Kernel) (marks : Marks id old new) (begun : IsBegun old) where
  rules_marks : rules_at (kernel_view new) ≡ rules_at (kernel_view old)
  rules_marks = ap₂ rules_in marks.compiled marks.props

  work_marks : work new ≡ work old
  work_marks =
      ap₂ (λ w n. effort w new.entries.items + (w + 2) * n) (ap width_of rules_marks) marks.left
      ∙ ap (λ es. effort (width_in old) es + (width_in old + 2) * old.left) marks.entries

  mark_stays : (n : ℕ) → slice_get old.reached.items n ≡ Some true → slice_get new.reached.items n ≡ Some true
  mark_stays n h = elim (cases_eq n id) [
    | inl here ↦ ap (λ ms. slice_get ms n) marks.reached ∙ ap (slice_get (slice_set old.reached.items id true)) here ∙ get_set_same old.reached.items id true true (ap (slice_get old.reached.items) (sym here) ∙ h)
    | inr other ↦ ap (λ ms. slice_get ms n) marks.reached ∙ get_set_other old.reached.items id n true other ∙ h
  ]

  pub marks-puts : Puts old new
  marks-puts = record {
    goes = record {
      keeps = record {
        closure = marks.compiled;
        props = marks.props;
        labels = λ n l h. ap (λ (t : Labels). slice_get t.list n) marks.table ∙ h;
        settled = λ n x h s. ap (λ es. slice_get es n) marks.entries ∙ h;
      };
      goal = marks.goal;
      begun = subst (λ n. n < length new.table.list) (sym marks.goal) (subst (λ (t : Labels). old.goal < length t.list) (sym marks.table) begun);
      room = ap₂ (λ (t : Labels) n. length t.list + n) marks.table marks.left;
      less = let is = marks.left in omega (arith, is);
      marks = mark_stays;
      new_marks = λ n h lt. absurd (let is : length new.table.list ≡ length old.table.list = ap (λ (t : Labels). length t.list) marks.table in omega (arith, h, lt, is));
      work = let is = work_marks in omega (arith, is);
    };
    entries = λ n e h. ap (λ es. slice_get es n) marks.entries ∙ h;
  }

-- ---- a label more

-- nothing was done at the label
pub blank-right : (r : Rules) (labels : List (List ℕ)) (entries : List Entry) (l : List ℕ) (clear : Bool) → (clear ≡ true → IsClear r (has l))
    → IsEntry r labels entries l (blank clear)
blank-right r labels entries l clear is_clear = record {
  says = record {
    clash = λ c is. absurd (cc);
    larger = λ t is. absurd (cc);
    clear_split = λ s to is. absurd (cc);
    calls = λ s to is. absurd (cc);
    as_many = λ s to is. absurd (cc);
    split = λ s to is i c t a b. absurd (cc);
    clear_done = λ to is. absurd (cc);
    done = λ to is i n t a. absurd (cc);
  };
  ranked = λ k is. absurd (cc);
  complete = λ to is none. absurd (cc);
  covered = λ to n is lt has_n. absurd (cc);
  unranked = λ o. absurd (false≢true o);
  opened = λ o. absurd (false≢true o);
  clear = is_clear;
}

pub append-right : (r : Rules) (labels : List (List ℕ)) (entries : List Entry) (closed : ℕ) (l : List ℕ) (clear : Bool) → AreEntries r labels entries closed
    → (clear ≡ true → IsClear r (has l)) → AreEntries r (labels ++ l ∷ []) (entries ++ blank clear ∷ []) closed
append-right r labels entries closed l clear all is_clear =
    append r labels entries closed l (blank clear) all refl (blank-right r (labels ++ l ∷ []) (entries ++ blank clear ∷ []) l clear is_clear)

module _ (l : List ℕ) (clear : Bool) (old new : Kernel) (adds : Adds l clear old new) (near : old.goal ≤ length old.table.list) where
  rules_adds : rules_at (kernel_view new) ≡ rules_at (kernel_view old)
  rules_adds = ap₂ rules_in adds.compiled adds.props

  work_adds : work new ≡ work old
  work_adds =
      let w = width_in old in
      let sum : effort w (old.entries.items ++ blank clear ∷ []) ≡ effort w old.entries.items + effort_of w (blank clear) = sum_by_push (effort_of w) old.entries.items (blank clear) in
      let left = adds.left in
      let times : (w + 2) * old.left ≡ (w + 2) * new.left + (w + 2) = ap (λ n. (w + 2) * n) (sym left) ∙ times_more (w + 2) new.left in
      let here : work new ≡ effort w (old.entries.items ++ blank clear ∷ []) + (w + 2) * new.left =
      ap (λ v. effort v new.entries.items + (v + 2) * new.left) (ap width_of rules_adds) ∙ ap (λ es. effort w es + (w + 2) * new.left) adds.entries in
      omega (arith, sum, times, here)
    where
      times_more : (m n : ℕ) → m * (n + 1) ≡ m * n + m
      times_more m n = omega arith

  longer : length new.table.list ≡ length old.table.list + 1
  longer = ap length adds.labels ∙ length-append old.table.list (l ∷ [])

  pub adds-puts : Puts old new
  adds-puts = record {
    goes = record {
      keeps = record {
        closure = adds.compiled;
        props = adds.props;
        labels = λ n m h. ap (λ ls. slice_get ls n) adds.labels ∙ get_push_old old.table.list l n m h;
        settled = λ n x h s. entries n x h;
      };
      goal = adds.goal;
      begun = let is = longer in let same = adds.goal in omega (arith, is, same, near);
      room = let is = longer in let left = adds.left in omega (arith, is, left);
      less = let left = adds.left in omega (arith, left);
      marks = λ n h. ap (λ ms. slice_get ms n) adds.reached ∙ get_push_old old.reached.items true n true h;
      new_marks = λ n h lt.
          let is = longer in
          let sized = old.marked in
          let here : n ≡ length old.reached.items = omega (arith, is, h, lt, sized) in
          ap (λ ms. slice_get ms n) adds.reached ∙ ap (slice_get (old.reached.items ++ true ∷ [])) here ∙ get_push_new old.reached.items true;
      work = let is = work_adds in omega (arith, is);
    };
    entries = entries;
  }
    where
      entries : (n : ℕ) (e : Entry) → slice_get old.entries.items n ≡ Some e → slice_get new.entries.items n ≡ Some e
      entries n e h = ap (λ es. slice_get es n) adds.entries ∙ get_push_old old.entries.items (blank clear) n e h

-- ---- what the table says of a new label

pub with-absent : (xs : List (List ℕ)) (l : List ℕ) → has_label xs l ≡ false → with_label xs l ≡ xs ++ l ∷ []
with-absent xs l h = ap (λ b. if b then xs else (xs ++ l ∷ [])) h

pub number-absent : (xs : List (List ℕ)) (l : List ℕ) → has_label xs l ≡ false → number_of (with_label xs l) l ≡ length xs
number-absent xs l h = number_of-with_label xs l ∙ number_of-new xs l h

-- what is not among the labels stands nowhere
pub absent-nowhere : (xs : List (List ℕ)) (l : List ℕ) (n : ℕ) → has_label xs l ≡ false → slice_get xs n ≡ Some l → ⊥
absent-nowhere xs l n h is = false≢true (sym h ∙ has_label-slice_get xs n l is)

pub some_is : {X : Type 0} (x : X) → Some x ≡ None → ⊥
some_is x e = cc

module _ (l : List ℕ) (clear : Bool) (old mid : Kernel) (id : ℕ) (adds : Adds l clear old mid) (is : id ≡ length old.table.list) where
  -- the new label stands behind the old ones
  pub adds-found : slice_get mid.table.list id ≡ Some l
  adds-found = ap (λ ls. slice_get ls id) adds.labels ∙ ap (slice_get (old.table.list ++ l ∷ [])) is ∙ get_push_new old.table.list l

  blank-there : slice_get mid.entries.items id ≡ Some (blank clear)
  blank-there =
      ap (λ es. slice_get es id) adds.entries ∙ ap (slice_get (old.entries.items ++ blank clear ∷ [])) (is ∙ sym old.right.sized) ∙ get_push_new old.entries.items (blank clear)

  -- and may be closed at once
  module _ (new : Kernel) (c : Clash) (near : old.goal ≤ length old.table.list)
      (sets : (x : Entry) → slice_get mid.entries.items id ≡ Some x → Sets id (record x { node = node.Clash c; rank = Some mid.closed }) mid new) where
    closing : Sets id (record (blank clear) { node = node.Clash c; rank = Some mid.closed }) mid new
    closing = sets (blank clear) blank-there

    pub closed-puts : Puts old new
    closed-puts =
        let first = adds-puts l clear old mid adds near in
        let then_ = sets-goes id (record (blank clear) { node = node.Clash c; rank = Some mid.closed }) (blank clear) mid new closing blank-there refl (omega arith) first.goes.begun in
        record {
          goes = goes-trans old mid new first.goes then_;
          entries = λ n e h.
              let lt : n < length old.entries.items = slice_get_within old.entries.items n e h in
              let sized = old.right.sized in
              ap (λ es. slice_get es n) closing.entries
              ∙ get_set_other mid.entries.items id n (record (blank clear) { node = node.Clash c; rank = Some mid.closed }) (λ here. absurd (omega (arith, lt, sized, is, here)))
              ∙ first.entries n e h;
        }

    pub closed-found : slice_get new.table.list id ≡ Some l
    closed-found = ap (λ (t : Labels). slice_get t.list id) closing.table ∙ adds-found

-- ---- nothing changes

module _ (old new : Kernel) (idles : Idles old new) where
  pub idles-keeps : Keeps (kernel_view old) (kernel_view new)
  idles-keeps = record {
    closure = idles.compiled;
    props = idles.props;
    labels = λ n l h. ap (λ (t : Labels). slice_get t.list n) idles.table ∙ h;
    settled = λ n x h s. ap (λ es. slice_get es n) idles.entries ∙ h;
  }

  pub idles-puts : IsBegun old → Puts old new
  idles-puts begun = record {
    goes = record {
      keeps = idles-keeps;
      goal = idles.goal;
      begun = subst (λ n. n < length new.table.list) (sym idles.goal) (subst (λ (t : Labels). old.goal < length t.list) (sym idles.table) begun);
      room = ap₂ (λ (t : Labels) n. length t.list + n) idles.table idles.left;
      less = let is = idles.left in omega (arith, is);
      marks = λ n h. ap (λ ms. slice_get ms n) idles.reached ∙ h;
      new_marks = λ n h lt. absurd (let is : length new.table.list ≡ length old.table.list = ap (λ (t : Labels). length t.list) idles.table in omega (arith, h, lt, is));
      work = let is = same_work in omega (arith, is);
    };
    entries = λ n e h. ap (λ es. slice_get es n) idles.entries ∙ h;
  }
    where
      same_work : work new ≡ work old
      same_work =
          ap₂ (λ w n. effort w new.entries.items + (w + 2) * n) (ap width_of (ap₂ rules_in idles.compiled idles.props)) idles.left
          ∙ ap (λ es. effort (width_in old) es + (width_in old + 2) * old.left) idles.entries
