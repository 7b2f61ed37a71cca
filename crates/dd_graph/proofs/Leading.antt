-- What a reached clear label leads to is reached.
use Rattle.std.proofs.Common.{◌≡◌, ◌≢◌, ◌∙◌, ℕ, ◌<◌, ◌≤◌, ◌+◌, Bool, true, false, List, [], ◌∷◌, ◌++◌, length, Option, None, Some, slice_get, refl, sym, ap, ap₂, subst, arith, inl, inr}
use Rattle.std.specs.Option.{option_map_or}
use Rattle.std.proofs.lemmas.Bool.{false≢true, and_parts, cases_lt}
use Rattle.std.proofs.Math.ListN.{length-append}
use Rattle.std.proofs.Math.Logic.{∥∥₁_map}
use Rattle.std.proofs.lemmas.Option.{slice_get_within}
use Rattle.dd_rules.specs.Compiled.{rules_in}
use Rattle.dd_rules.specs.Least.{IsLeastSaturated}
use Rattle.dd_rules.specs.Numbers.{Rules, additions, calls_for, IsSuccessor}
use Rattle.dd_rules.specs.declared.shape.Shape.{Shape}
use Rattle.dd_rules.specs.declared.shape.Shape.TheVariants as shape
use Rattle.dd_rules.specs.declared.shape.Step.{Step}
use Rattle.dd_set.specs.Words.{has}
use Rattle.dd_graph.specs.declared.kernel.Kernel.{Kernel}
use Rattle.dd_graph.specs.declared.node.Entry.{Entry}
use Rattle.dd_graph.specs.Goes.{AreChildren, IsBegun, IsFreshAt, IsReachedNow, Goes, Puts}
use Rattle.dd_graph.specs.Reached.{ReachedIn, IsReachedIn}
use Rattle.dd_graph.specs.Reached as reached_in
use Rattle.dd_graph.specs.Right.{IsClear, IsLeastAt, IsSuccessorAt, adding, is_some_in, is_some_shape}
use Rattle.dd_graph.specs.View.{kernel_view, rules_at, Keeps}
use Rattle.dd_graph.proofs.Kept.{least_kept}
use Rattle.dd_graph.proofs.Lists.{same_Some, none_is_not, place_at, get_push}
use Rattle.dd_graph.proofs.Going.{puts-refl, puts-trans}

pub rules-kept : (old new : Kernel) → Keeps (kernel_view old) (kernel_view new) → rules_at (kernel_view new) ≡ rules_at (kernel_view old)
rules-kept old new keeps = ap₂ rules_in keeps.closure keeps.props

-- what is reached stays so
pub reached-kept : (old new : Kernel) (p : ℕ → Bool) → IsBegun old → Goes old new → IsReachedNow old p → IsReachedNow new p
reached-kept old new p begun goes h g at =
    let there = place_at old.table.list old.goal begun in
    let same : there.0 ≡ g = same_Some there.0 g (sym (goes.keeps.labels old.goal there.0 there.1) ∙ ap (slice_get new.table.list) (sym goes.goal) ∙ at) in
    subst (λ r. IsReachedIn r (has g) p) (sym (rules-kept old new goes.keeps)) (h g (there.1 ∙ ap Some same))

pub reached-saturated : (k : Kernel) (p q : ℕ → Bool) → IsReachedNow k p → IsLeastSaturated (rules_at (kernel_view k)) p q → IsReachedNow k q
reached-saturated k p q h least g at = ∥∥₁_map (h g at) (λ r. reached_in.saturated p q r least)

pub reached-step : (k : Kernel) (p q : ℕ → Bool) (s : Step) (i c : ℕ) → IsReachedNow k p → IsClear (rules_at (kernel_view k)) p → calls_for (rules_at (kernel_view k)) p s ≡ true
    → slice_get (additions (rules_at (kernel_view k)) s) i ≡ Some c → IsLeastSaturated (rules_at (kernel_view k)) (adding c p) q → IsReachedNow k q
reached-step k p q s i c h clear calls adds least g at = ∥∥₁_map (h g at) (λ r. reached_in.step p q s i c r clear calls adds least)

pub reached-successor : (k : Kernel) (p q : ℕ → Bool) (n role c : ℕ) → IsReachedNow k p → IsClear (rules_at (kernel_view k)) p → p n ≡ true
    → slice_get (rules_at (kernel_view k)).shapes n ≡ Some (shape.HasSome role c) → IsSuccessor (rules_at (kernel_view k)) p role c q → IsReachedNow k q
reached-successor k p q n role c h clear there some next g at = ∥∥₁_map (h g at) (λ r. reached_in.successor p q n role c r clear there some next)

-- the label that was put stands where it was found
pub least-found : (r : Rules) (labels : List (List ℕ)) (p : ℕ → Bool) (t : ℕ) (m : List ℕ) → slice_get labels t ≡ Some m → IsLeastSaturated r p (has m) → IsLeastAt r labels p t
least-found r labels p t m at least = record {
  there = slice_get_within labels t m at;
  least = λ w is. subst (λ x. IsLeastSaturated r p (has x)) (same_Some m w (sym at ∙ is)) least;
}

-- ---- children

-- the labels for the first additions were put
pub record SplitsSoFar (old now : Kernel) (p : ℕ → Bool) (s : Step) (k : ℕ) (to : List ℕ) : Type 0 where
  pub puts : Puts old now
  pub many : length to ≡ k
  pub fits : k ≤ length (additions (rules_at (kernel_view old)) s)
  pub children : AreChildren (rules_at (kernel_view old)) now.table.list p s to

pub splits-none : (k : Kernel) (p : ℕ → Bool) (s : Step) → IsBegun k → SplitsSoFar k k p s 0 []
splits-none k p s begun = record {
  puts = puts-refl k begun;
  many = refl;
  fits = omega arith;
  children = record { least = λ i c t a b. absurd (none_is_not t b) };
}

longer-kept : (old new : Kernel) → Goes old new → length old.table.list ≤ length new.table.list
longer-kept old new goes = let room = goes.room in let less = goes.less in omega (arith, room, less)

pub splits-next : (old now then_ : Kernel) (p : ℕ → Bool) (s : Step) (k c t : ℕ) (to : List ℕ) → SplitsSoFar old now p s k to → Puts now then_
    → slice_get (additions (rules_at (kernel_view old)) s) k ≡ Some c → IsLeastAt (rules_at (kernel_view now)) then_.table.list (adding c p) t
    → SplitsSoFar old then_ p s (k + 1) (to ++ t ∷ [])
splits-next old now then_ p s k c t to h puts add least = record {
  puts = puts-trans old now then_ h.puts puts;
  many = let many = h.many in omega (arith, length-append to (t ∷ []), many);
  fits = let lt : k < length (additions (rules_at (kernel_view old)) s) = slice_get_within (additions (rules_at (kernel_view old)) s) k c add in omega (arith, lt);
  children = record {
    least = λ i d u a b. get_push
        (λ i u. (d : ℕ) → slice_get (additions (rules_at (kernel_view old)) s) i ≡ Some d → IsLeastAt (rules_at (kernel_view old)) then_.table.list (adding d p) u) to t
        (λ i u is d a. least_kept (rules_at (kernel_view old)) now.table.list then_.table.list puts.goes.keeps.labels (longer-kept now then_ puts.goes) (adding d p) u (h.children.least i d u a is))
        (λ d a. let same : c ≡ d = same_Some c d (sym add ∙ ap (slice_get (additions (rules_at (kernel_view old)) s)) (sym h.many) ∙ a) in
        subst (λ x. IsLeastAt (rules_at (kernel_view old)) then_.table.list (adding x p) t) same
        (subst (λ r. IsLeastAt r then_.table.list (adding c p) t) (rules-kept old now h.puts.goes.keeps) least)) i u b d a;
  };
}

-- there are no further additions
pub splits-all : (old now : Kernel) (p : ℕ → Bool) (s : Step) (k : ℕ) (to : List ℕ) → SplitsSoFar old now p s k to
    → slice_get (additions (rules_at (kernel_view old)) s) k ≡ None → length to ≡ length (additions (rules_at (kernel_view old)) s)
splits-all old now p s k to h none = elim (cases_lt k (length (additions (rules_at (kernel_view old)) s))) [
  | inl lt ↦ let at = place_at (additions (rules_at (kernel_view old)) s) k lt in absurd (none_is_not at.0 (sym none ∙ at.1))
  | inr past ↦ let many = h.many in let fits = h.fits in omega (arith, many, fits, past)
]

-- ---- successors

pub some-shape : (o : Option Shape) → option_map_or is_some_shape o false ≡ true → (role : ℕ) × (c : ℕ) × (o ≡ Some (shape.HasSome role c))
some-shape None h = absurd (false≢true h)
some-shape (Some (shape.HasSome role c)) h = (role, c, refl)
some-shape (Some shape.Top) h = absurd (false≢true h)
some-shape (Some shape.Bottom) h = absurd (false≢true h)
some-shape (Some (shape.Name a)) h = absurd (false≢true h)
some-shape (Some (shape.Not a)) h = absurd (false≢true h)
some-shape (Some (shape.And a b)) h = absurd (false≢true h)
some-shape (Some (shape.Or a b)) h = absurd (false≢true h)
some-shape (Some (shape.HasAll a b)) h = absurd (false≢true h)

pub follows-found : (r : Rules) (labels : List (List ℕ)) (p : ℕ → Bool) (n t : ℕ) (m : List ℕ) → slice_get labels t ≡ Some m → is_some_in r p n ≡ true
    → ((role c : ℕ) → slice_get r.shapes n ≡ Some (shape.HasSome role c) → IsSuccessor r p role c (has m)) → IsSuccessorAt r labels p n t
follows-found r labels p n t m at restricts passed = record {
  there = slice_get_within labels t m at;
  restricts = restricts;
  follows = λ role c w some is. subst (λ x. IsSuccessor r p role c (has x)) (same_Some m w (sym at ∙ is)) (passed role c some);
}

-- what the restriction asks for is reached
pub reached-some : (k : Kernel) (p q : ℕ → Bool) (n : ℕ) → IsReachedNow k p → IsClear (rules_at (kernel_view k)) p → is_some_in (rules_at (kernel_view k)) p n ≡ true
    → ((role c : ℕ) → slice_get (rules_at (kernel_view k)).shapes n ≡ Some (shape.HasSome role c) → IsSuccessor (rules_at (kernel_view k)) p role c q) → IsReachedNow k q
reached-some k p q n h clear restricts passed =
    let both = and_parts (p n) (option_map_or is_some_shape (slice_get (rules_at (kernel_view k)).shapes n) false) restricts in
    let is = some-shape (slice_get (rules_at (kernel_view k)).shapes n) both.1 in
    reached-successor k p q n is.0 is.1 h clear both.0 is.2 (passed is.0 is.1 is.2)
