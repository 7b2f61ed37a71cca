-- Forced steps, upward and back.
use Rattle.std.proofs.Common.{◌≡◌, ◌∙◌, ◌<◌, ◌≤◌, ◌-◌, ◌++◌, ◌||◌, ◌==◌, sym, refl, ap, subst, ℕ, zero, suc, Bool, true, false, not, List, [], ◌∷◌, length, map, slice_get, Some, Option, inl, inr, arith}
use Rattle.std.specs.List.{list_any}
use Rattle.std.specs.Option.{option_map_or}
use Rattle.std.proofs.lemmas.Bool.{or_cases, or_left, or_right, eq-eqb}
use Rattle.std.proofs.lemmas.Option.{same_Some, slice_get_within}
use Rattle.std.proofs.lemmas.List.{length-map}
use Rattle.dd_concept.specs.Closed.{HasSides, IsClosedFor}
use Rattle.dd_graph.specs.View.{GraphView, props_at, rules_at}
use Rattle.dd_graph.proofs.Lists.{get_push}
use Rattle.dd_rules.specs.Compiled.{sides_numbers}
use Rattle.dd_rules.specs.Forced.{forces, forced_numbers}
use Rattle.dd_rules.specs.Least.{Implies}
use Rattle.dd_rules.specs.Numbers.{Rules, axiom_numbers, has_joined, keeps_axiom, shape_of}
use Rattle.dd_rules.specs.Tables.{IsShapeWithin}
use Rattle.dd_rules.specs.declared.shape.Shape.TheVariants as shape
use Rattle.dd_rules.specs.declared.shape.Step.TheVariants as way
use Rattle.dd_rules.specs.declared.tables.AxiomNumbers.{AxiomNumbers}
use Rattle.dd_rules.proofs.Lifting.{there}
use Rattle.dd_rules.proofs.Within.{shapes-within}
use Rattle.dd_set.specs.Sets.{count}
use Rattle.dd_set.specs.Words.{Label, has}
use Rattle.dd_set.proofs.Sets.{count-le, count-less}
use Rattle.dd_close.proofs.Choices.{All-at}
use Rattle.dd_close.proofs.Lefts.{place-low}
use Rattle.dd_close.specs.Drafts.{IsLine}
use Rattle.dd_close.specs.Logs.{AddsForced, Climbs, IsLog, Reaches, by_forced, set_at}
use Rattle.dd_close.specs.declared.draft.Book.{Book}
use Rattle.dd_close.specs.declared.forced.Forced.{Forced}
use Rattle.dd_close.proofs.Books.{implies-trans, line-wider}

get-map : {A B : Type 0} (f : A → B) (xs : List A) (n : ℕ) (y : B) → slice_get (map f xs) n ≡ Some y → (x : A) × (slice_get xs n ≡ Some x) × (f x ≡ y)
get-map f [] n y e = cc
get-map f (x ∷ xs) zero y e = (x, refl, same_Some (f x) y e)
get-map f (x ∷ xs) (suc n) y e = get-map f xs n y e

module _ (v : GraphView) (closed : IsClosedFor v.closure.axioms (props_at v) v.closure.concepts) where
  -- the parts of a conjunction are in the closure
  pub and-low : (at a b : ℕ) → slice_get (rules_at v).shapes at ≡ Some (shape.And a b) → (a < length v.closure.concepts) × (b < length v.closure.concepts)
  and-low at a b e =
      subst (λ n. (a < n) × (b < n)) (length-map v.closure.concepts (shape_of v.closure.concepts))
      (All-at (IsShapeWithin (length (rules_at v).shapes)) (rules_at v).shapes at (shape.And a b) (shapes-within v.closure.concepts (rules_at v).shapes closed.parts refl) e)

  -- the sides of an axiom are
  pub sides-low : (k : ℕ) (s : ℕ × ℕ) → slice_get (map (sides_numbers v.closure.concepts) v.closure.axioms) k ≡ Some s
      → (s.0 < length v.closure.concepts) × (s.1 < length v.closure.concepts)
  sides-low k s e =
      let a = get-map (sides_numbers v.closure.concepts) v.closure.axioms k s e in
      let inside = All-at (HasSides v.closure.concepts) v.closure.axioms k a.0 closed.sides a.1 in
      subst (λ (t : ℕ × ℕ). (t.0 < length v.closure.concepts) × (t.1 < length v.closure.concepts)) a.2
      (place-low v.closure.concepts _ inside.left, place-low v.closure.concepts _ inside.right)

-- the numbers of the sides are those of the axiom
pub sides-are : (v : GraphView) (k : ℕ) (s : ℕ × ℕ) (a : AxiomNumbers) → slice_get (map (sides_numbers v.closure.concepts) v.closure.axioms) k ≡ Some s
    → slice_get (rules_at v).axioms k ≡ Some a → (s.0 ≡ a.left) × (s.1 ≡ a.right)
sides-are v k s a e f =
    let x = get-map (sides_numbers v.closure.concepts) v.closure.axioms k s e in
    let y = get-map (axiom_numbers v.closure.concepts) v.closure.axioms k a f in
    let same : x.0 ≡ y.0 = same_Some x.0 y.0 (sym x.1 ∙ y.1) in
    let whole : sides_numbers v.closure.concepts y.0 ≡ s = ap (sides_numbers v.closure.concepts) (sym same) ∙ x.2 in
    (sym (ap (λ (t : ℕ × ℕ). t.0) whole) ∙ ap (λ (b : AxiomNumbers). b.left) y.2, sym (ap (λ (t : ℕ × ℕ). t.1) whole) ∙ ap (λ (b : AxiomNumbers). b.right) y.2)

-- an axiom is forced where the label has its names, and not its right side
pub axiom-forced : (r : Rules) (p : ℕ → Bool) (k : ℕ) → forces r p (way.Axiom k) ≡ true
    → (a : AxiomNumbers) × (slice_get r.axioms k ≡ Some a) × (has_joined p a.joined ≡ true) × (p a.right ≡ false)
axiom-forced r p k h =
    let found = there (slice_get r.axioms k) (λ a. not (keeps_axiom p a)) h in
    let parts = by (has_joined p found.0.joined) (p found.0.right) found.2 in
    (found.0, found.1, parts.0, parts.1)
  where
    by : (a b : Bool) → not (not a || b) ≡ true → (a ≡ true) × (b ≡ false)
    by true true e = cc
    by true false e = (refl, refl)
    by false b e = cc

-- the right side of a forced axiom is added
pub right-adds : (v : GraphView) (k : ℕ) (s : ℕ × ℕ) (p q : ℕ → Bool) → slice_get (map (sides_numbers v.closure.concepts) v.closure.axioms) k ≡ Some s
    → forces (rules_at v) p (way.Axiom k) ≡ true → ((n : ℕ) → q n ≡ ((n == s.1) || p n)) → AddsForced (rules_at v) (way.Axiom k) p q
right-adds v k s p q sides h with_it =
    let a = axiom-forced (rules_at v) p k h in
    let same = (sides-are v k s a.0 sides a.1).1 in
    record {
      above = λ n t. with_it n ∙ or_right (n == s.1) (p n) t;
      only = λ n t.
          let is : forced_numbers (rules_at v) (way.Axiom k) ≡ (a.0.right ∷ []) = ap (λ (o : Option AxiomNumbers). option_map_or (λ (x : AxiomNumbers). x.right ∷ []) o []) a.1 in
          subst (λ ns. (list_any (λ m. n == m) ns || p n) ≡ true) (sym is)
          (elim (or_cases (n == s.1) (p n) (sym (with_it n) ∙ t)) [
            | inl here ↦ or_left ((n == a.0.right) || false) (p n) (or_left (n == a.0.right) false (subst (λ m. (n == m) ≡ true) same here))
            | inr old ↦ or_right ((n == a.0.right) || false) (p n) old
          ]);
      number = s.1;
      was_not = ap p same ∙ a.3;
      is_now = with_it s.1 ∙ or_left (s.1 == s.1) (p s.1) (eq-eqb s.1 s.1 refl);
    }

-- ---- the log

pub log-start : (r : Rules) (width : ℕ) (p : ℕ → Bool) → IsLog r width p [] p
log-start r width p = record { start = λ n t. t; widths = λ i f e. cc; forced = λ i f e. cc; leads = λ i f e. cc }

set_at-push : (log : List Forced) (f : Forced) (top : ℕ → Bool) (i : ℕ) → i ≤ length log → (n : ℕ) → set_at (log ++ f ∷ []) top i n ≡ set_at log (has f.before.words) i n
set_at-push [] f top zero le n = refl
set_at-push [] f top (suc i) le n = absurd (omega (arith, le))
set_at-push (g ∷ gs) f top zero le n = refl
set_at-push (g ∷ gs) f top (suc i) le n = set_at-push gs f top i (omega (arith, le)) n

set_at-end : (log : List Forced) (f : Forced) (top : ℕ → Bool) (n : ℕ) → set_at (log ++ f ∷ []) top (suc (length log)) n ≡ top n
set_at-end [] f top n = refl
set_at-end (g ∷ gs) f top n = set_at-end gs f top n

pub log-next : (r : Rules) (width : ℕ) (base : ℕ → Bool) (old new : Label) (log more : List Forced) → old.width ≡ width → IsLog r width base log (has old.words)
    → Climbs r old new log more → IsLog r width base more (has new.words)
log-next r width base old new log more wide h climbs = subst (λ fs. IsLog r width base fs (has new.words)) (sym climbs.longer) (record {
  start = λ n t. h.start n (sym (set_at-push log f (has new.words) 0 (omega arith) n) ∙ t);
  widths = get_push (λ i g. g.before.width ≡ width) log f h.widths wide;
  forced = get_push (λ i g. forces r (has g.before.words) g.step ≡ true) log f h.forced climbs.forced;
  leads = get_push (λ i g. Implies (set_at (log ++ f ∷ []) (has new.words) (suc i)) (by_forced r g)) log f
      (λ i g e n t. h.leads i g e n (sym (set_at-push log f (has new.words) (suc i) (slice_get_within log i g e) n) ∙ t))
      (λ n t. climbs.adds.only n (sym (set_at-end log f (has new.words) n) ∙ t));
})
  where
    f : Forced
    f = record { before = old; step = climbs.step }

pub reaches-next : (r : Rules) (b : Book) (line : ℕ) (p q : ℕ → Bool) → Implies p q → Reaches r b line p → Reaches r b line q
reaches-next r b line p q w h other above saturated = h other (implies-trans p q other w above) saturated

-- the line is within the label before a step, and then it is within the one before that
pub log-end : (r : Rules) (width : ℕ) (base : ℕ → Bool) (log : List Forced) (top : ℕ → Bool) (b : Book) (line : ℕ) → IsLog r width base log top
    → IsLine b (set_at log top 0) line → IsLine b base line
log-end r width base log top b line h l = line-wider b (set_at log top 0) base line h.start l

pub set_at-last : (log : List Forced) (top : ℕ → Bool) (n : ℕ) → set_at log top (length log) n ≡ top n
set_at-last [] top n = refl
set_at-last (f ∷ fs) top n = set_at-last fs top n

pub set_at-item : (log : List Forced) (top : ℕ → Bool) (i : ℕ) (f : Forced) → slice_get log i ≡ Some f → set_at log top i ≡ has f.before.words
set_at-item log top i f e = ap (λ (o : Option Forced). option_map_or (λ (g : Forced). has g.before.words) o top) e

-- each step leaves less room in the label
pub climb-smaller : (r : Rules) (old new : Label) (log more : List Forced) → new.width ≡ old.width → Climbs r old new log more
    → new.width - count new.words new.width < old.width - count old.words old.width
climb-smaller r old new log more wide climbs =
    let less = count-less old.words new.words climbs.adds.number new.width climbs.adds.above climbs.adds.was_not climbs.adds.is_now climbs.low in
    let most = count-le new.words new.width in
    subst (λ w. new.width - count new.words new.width < w - count old.words w) wide (omega (arith, less, most))
