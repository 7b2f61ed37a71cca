-- Labels were put, and then something was noted at one that was there.
use Rattle.std.proofs.Common.{◌≡◌, ◌≢◌, ◌∙◌, ℕ, ◌<◌, ◌≤◌, ◌+◌, ◌-◌, Bool, true, false, List, [], ◌∷◌, ◌++◌, length, Option, None, Some, slice_get, slice_set, refl, sym, ap, ap₂, subst, arith, inl, inr}
use Rattle.std.proofs.lemmas.List.{length-map}
use Rattle.std.proofs.lemmas.Option.{slice_get_within}
use Rattle.dd_rules.specs.Least.{IsLeastSaturated, Implies}
use Rattle.dd_rules.specs.Numbers.{Rules, is_saturated, has_clash, shape_of}
use Rattle.dd_rules.specs.declared.clash.Clash.{Clash}
use Rattle.dd_rules.specs.declared.shape.Step.{Step}
use Rattle.dd_set.specs.Words.{has}
use Rattle.dd_table.specs.Labels.{Labels}
use Rattle.dd_graph.specs.declared.kernel.Kernel.{Kernel}
use Rattle.dd_graph.specs.declared.node.Entry.{Entry}
use Rattle.dd_graph.specs.declared.node.Node.TheVariants as node
use Rattle.dd_graph.specs.Goes.{AtLabel, IsBegun, IsDoneAt, IsFree, IsFreshAt, IsReachedNow, Goes, Lessens, Puts, Sets, SetsBy, width_in, work}
use Rattle.dd_graph.specs.Right.{IsClear, IsLeastAt, effort_of, width_of}
use Rattle.dd_graph.specs.View.{kernel_view, rules_at, is_settled}
use Rattle.dd_graph.proofs.Going.{goes-trans, puts-refl, sets-goes, sets-less}
use Rattle.dd_graph.proofs.Leading.{least-found, reached-kept, rules-kept}
use Rattle.dd_graph.proofs.Lists.{same_Some, get_set_same}
use Rattle.dd_graph.proofs.Noting.{fresh-less, done-effort}

-- a claim on the only label that stands there
pub at-label : (k : Kernel) (id : ℕ) (l : List ℕ) (claim : List ℕ → Type 0) → slice_get k.table.list id ≡ Some l → claim l → AtLabel k id claim
at-label k id l claim at h m is = subst claim (same_Some l m (sym at ∙ is)) h

pub free-at : (k : Kernel) (id : ℕ) (l : List ℕ) → IsFreshAt k id l → IsFree k id
free-at k id l h = (h.entry, h.here, h.unsettled)

-- nothing was done at the label still
pub fresh-kept : (old new : Kernel) (id : ℕ) (l : List ℕ) → IsBegun old → Puts old new → IsFreshAt old id l → IsFreshAt new id l
fresh-kept old new id l begun puts h = record {
  entry = h.entry;
  here = puts.entries id h.entry h.here;
  unsettled = h.unsettled;
  fresh = h.fresh;
  label = puts.goes.keeps.labels id l h.label;
  reached = reached-kept old new (has l) begun puts.goes h.reached;
}

-- less is to be done at the label of the entry
module _ (old mid new : Kernel) (id : ℕ) (e now : Entry) (puts : Puts old mid) (sets : Sets id now mid new)
    (here : slice_get old.entries.items id ≡ Some e) (free : is_settled e ≡ false) (less : effort_of (width_in mid) now < effort_of (width_in mid) e) where
  pub puts-goes : Goes old new
  puts-goes = goes-trans old mid new puts.goes
      (sets-goes id now e mid new sets (puts.entries id e here) free (omega (arith, less)) puts.goes.begun)

  pub puts-less : Lessens old new
  puts-less = let first = puts.goes.work in let then_ = (sets-less id now e mid new sets (puts.entries id e here) less).less in record { less = omega (arith, first, then_) }

-- ---- a fresh label

module _ (old mid new : Kernel) (id : ℕ) (l : List ℕ) (fresh : IsFreshAt old id l) (puts : Puts old mid) where
  pub split-goes : (s : Step) (to : List ℕ) → SetsBy id (λ e. record e { node = node.Split s to }) mid new → Goes old new
  split-goes s to sets = puts-goes old mid new id fresh.entry (record fresh.entry { node = node.Split s to }) puts (sets fresh.entry (puts.entries id fresh.entry fresh.here)) fresh.here fresh.unsettled
      (fresh-less (width_in mid) fresh.entry (record fresh.entry { node = node.Split s to }) fresh.fresh (omega arith))

  pub split-less : (s : Step) (to : List ℕ) → SetsBy id (λ e. record e { node = node.Split s to }) mid new → Lessens old new
  split-less s to sets = puts-less old mid new id fresh.entry (record fresh.entry { node = node.Split s to }) puts (sets fresh.entry (puts.entries id fresh.entry fresh.here)) fresh.here fresh.unsettled
      (fresh-less (width_in mid) fresh.entry (record fresh.entry { node = node.Split s to }) fresh.fresh (omega arith))

  pub larger-goes : (to : ℕ) → SetsBy id (λ e. record e { node = node.Larger to }) mid new → Goes old new
  larger-goes to sets = puts-goes old mid new id fresh.entry (record fresh.entry { node = node.Larger to }) puts (sets fresh.entry (puts.entries id fresh.entry fresh.here)) fresh.here fresh.unsettled
      (fresh-less (width_in mid) fresh.entry (record fresh.entry { node = node.Larger to }) fresh.fresh (omega arith))

  pub larger-less : (to : ℕ) → SetsBy id (λ e. record e { node = node.Larger to }) mid new → Lessens old new
  larger-less to sets = puts-less old mid new id fresh.entry (record fresh.entry { node = node.Larger to }) puts (sets fresh.entry (puts.entries id fresh.entry fresh.here)) fresh.here fresh.unsettled
      (fresh-less (width_in mid) fresh.entry (record fresh.entry { node = node.Larger to }) fresh.fresh (omega arith))

module _ (old new : Kernel) (id : ℕ) (l : List ℕ) (fresh : IsFreshAt old id l) (begun : IsBegun old) where
  still : Puts old old
  still = puts-refl old begun

  pub done-goes : SetsBy id (λ e. record e { node = node.Done []; upto = 0 }) old new → Goes old new
  done-goes sets = puts-goes old old new id fresh.entry (record fresh.entry { node = node.Done []; upto = 0 }) still (sets fresh.entry fresh.here) fresh.here fresh.unsettled
      (fresh-less (width_in old) fresh.entry (record fresh.entry { node = node.Done []; upto = 0 }) fresh.fresh (omega arith))

  pub done-less : SetsBy id (λ e. record e { node = node.Done []; upto = 0 }) old new → Lessens old new
  done-less sets = puts-less old old new id fresh.entry (record fresh.entry { node = node.Done []; upto = 0 }) still (sets fresh.entry fresh.here) fresh.here fresh.unsettled
      (fresh-less (width_in old) fresh.entry (record fresh.entry { node = node.Done []; upto = 0 }) fresh.fresh (omega arith))

  pub clash-goes : (c : Clash) (rank : ℕ) → SetsBy id (λ e. record e { node = node.Clash c; rank = Some rank }) old new → Goes old new
  clash-goes c rank sets = puts-goes old old new id fresh.entry (record fresh.entry { node = node.Clash c; rank = Some rank }) still (sets fresh.entry fresh.here) fresh.here fresh.unsettled
      (fresh-less (width_in old) fresh.entry (record fresh.entry { node = node.Clash c; rank = Some rank }) fresh.fresh (omega arith))

  pub clash-less : (c : Clash) (rank : ℕ) → SetsBy id (λ e. record e { node = node.Clash c; rank = Some rank }) old new → Lessens old new
  clash-less c rank sets = puts-less old old new id fresh.entry (record fresh.entry { node = node.Clash c; rank = Some rank }) still (sets fresh.entry fresh.here) fresh.here fresh.unsettled
      (fresh-less (width_in old) fresh.entry (record fresh.entry { node = node.Clash c; rank = Some rank }) fresh.fresh (omega arith))

  pub refuted-goes : (pairs : List (ℕ × ℕ)) (rank : ℕ) → SetsBy id (λ e. record e { node = node.Done pairs; upto = 0; rank = Some rank }) old new → Goes old new
  refuted-goes pairs rank sets = puts-goes old old new id fresh.entry (record fresh.entry { node = node.Done pairs; upto = 0; rank = Some rank }) still (sets fresh.entry fresh.here) fresh.here fresh.unsettled
      (fresh-less (width_in old) fresh.entry (record fresh.entry { node = node.Done pairs; upto = 0; rank = Some rank }) fresh.fresh (omega arith))

  pub refuted-less : (pairs : List (ℕ × ℕ)) (rank : ℕ) → SetsBy id (λ e. record e { node = node.Done pairs; upto = 0; rank = Some rank }) old new → Lessens old new
  refuted-less pairs rank sets = puts-less old old new id fresh.entry (record fresh.entry { node = node.Done pairs; upto = 0; rank = Some rank }) still (sets fresh.entry fresh.here) fresh.here fresh.unsettled
      (fresh-less (width_in old) fresh.entry (record fresh.entry { node = node.Done pairs; upto = 0; rank = Some rank }) fresh.fresh (omega arith))

  -- the label is known to be clear now
  module _ (sets : SetsBy id (λ e. record e { clear = true }) old new) where
    set_clear : Sets id (record fresh.entry { clear = true }) old new
    set_clear = sets fresh.entry fresh.here

    pub cleared-goes : Goes old new
    cleared-goes = sets-goes id (record fresh.entry { clear = true }) fresh.entry old new set_clear fresh.here fresh.unsettled (omega arith) begun

    pub cleared-fresh : IsFreshAt new id l
    cleared-fresh = record {
      entry = record fresh.entry { clear = true };
      here = ap (λ es. slice_get es id) set_clear.entries ∙ get_set_same old.entries.items id (record fresh.entry { clear = true }) fresh.entry fresh.here;
      unsettled = fresh.unsettled;
      fresh = fresh.fresh;
      label = ap (λ (t : Labels). slice_get t.list id) set_clear.table ∙ fresh.label;
      reached = reached-kept old new (has l) begun cleared-goes fresh.reached;
    }

-- ---- what the label was found to be

-- a saturated label is its own least one, and one without a clash is clear
pub clear-same : (r : Rules) (l m : List ℕ) → IsLeastSaturated r (has l) (has m) → m ≡ l → has_clash r (has l) ≡ false → IsClear r (has l)
clear-same r l m least same free = record { saturated = ap (λ x. is_saturated r (has x)) (sym same) ∙ least.saturated; no_clash = free }

-- it leads to a larger one
pub larger-facts : (old mid : Kernel) (l m : List ℕ) (to : ℕ) → Puts old mid → IsLeastSaturated (rules_at (kernel_view old)) (has l) (has m) → (m ≡ l → ⊥)
    → slice_get mid.table.list to ≡ Some m → IsLeastAt (rules_at (kernel_view mid)) mid.table.list (has l) to × (slice_get mid.table.list to ≢ Some l)
larger-facts old mid l m to puts least other at = (
  subst (λ r. IsLeastAt r mid.table.list (has l) to) (sym (rules-kept old mid puts.goes.keeps)) (least-found (rules_at (kernel_view old)) mid.table.list (has l) to m at least),
  λ is. other (same_Some m l (sym at ∙ is)),
)

-- ---- a label that is done

-- as many as there are concepts
pub width-concepts : (k : Kernel) → width_in k ≡ length k.compiled.concepts
width-concepts k = length-map k.compiled.concepts (shape_of k.compiled.concepts)

-- the label at the place is clear
pub done-clear : (k : Kernel) (id upto : ℕ) → IsDoneAt k id upto → AtLabel k id (λ l. IsClear (rules_at (kernel_view k)) (has l))
done-clear k id upto done l at = (k.right.each id l done.entry at done.here).says.clear_done done.to done.done

module _ (old mid new : Kernel) (id upto : ℕ) (done : IsDoneAt old id upto) (puts : Puts old mid) where
  -- one restriction more was looked at
  module _ (n t : ℕ) (from : upto ≤ n) (within : n < length old.compiled.concepts)
      (sets : (to : List (ℕ × ℕ)) (e : Entry) → slice_get mid.entries.items id ≡ Some e → e.node ≡ node.Done to → Sets id (record e { node = node.Done (to ++ (n, t) ∷ []); upto = n + 1 }) mid new) where
    paired : Entry
    paired = record done.entry { node = node.Done (done.to ++ (n, t) ∷ []); upto = n + 1 }

    set_paired : Sets id paired mid new
    unfolding paired
    set_paired = sets done.to done.entry (puts.entries id done.entry done.here) done.done

    less_paired : effort_of (width_in mid) paired < effort_of (width_in mid) done.entry
    unfolding paired
    less_paired =
        let was = done-effort (width_in mid) done.entry done.to done.done in
        let wide : width_in mid ≡ length old.compiled.concepts = ap width_of (rules-kept old mid puts.goes.keeps) ∙ width-concepts old in
        let at = done.from in
        omega (arith, was, wide, at, from, within)

    pub paired-goes : Goes old new
    paired-goes = puts-goes old mid new id done.entry paired puts set_paired done.here done.unsettled less_paired

    pub paired-less : Lessens old new
    paired-less = puts-less old mid new id done.entry paired puts set_paired done.here done.unsettled less_paired

module _ (old new : Kernel) (id upto width : ℕ) (done : IsDoneAt old id upto) (begun : IsBegun old) (wide : width ≡ length old.compiled.concepts)
    (sets : SetsBy id (λ e. record e { upto = width }) old new) where
  less_full : effort_of (width_in old) (record done.entry { upto = width }) < effort_of (width_in old) done.entry
  less_full =
      let was = done-effort (width_in old) done.entry done.to done.done in
      let then_ = done-effort (width_in old) (record done.entry { upto = width }) done.to done.done in
      let same = width-concepts old in
      let at = done.from in
      let below = done.below in
      omega (arith, was, then_, same, wide, at, below)

  pub full-goes : Goes old new
  full-goes = puts-goes old old new id done.entry (record done.entry { upto = width }) (puts-refl old begun) (sets done.entry done.here) done.here done.unsettled less_full

  pub full-less : Lessens old new
  full-less = puts-less old old new id done.entry (record done.entry { upto = width }) (puts-refl old begun) (sets done.entry done.here) done.here done.unsettled less_full
