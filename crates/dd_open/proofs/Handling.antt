-- What is known of an element whose label is gone through.
use Rattle.std.proofs.Common.{◌≡◌, ◌∙◌, ◌<◌, ◌≤◌, sym, ap, subst, ℕ, zero, suc, true, List, [], ◌∷◌, inl, inr, arith, length, get_or, slice_get, Some, All}
use Rattle.std.specs.Option.{option_map_or}
use Rattle.std.proofs.lemmas.Bool.{cases_lt}
use Rattle.std.proofs.lemmas.Option.{same_Some, slice_get_within, slice_get-get_or, get_or_from_slice_get}
use Rattle.dd_set.specs.Words.{has, IsPacked}
use Rattle.dd_set.specs.Sets.{numbers}
use Rattle.dd_set.specs.Marked.{is_among, with_arrival}
use Rattle.dd_set.proofs.Rising.{among-numbers}
use Rattle.dd_set.proofs.Arrivals.{among-at, once-none, once-with_arrival}
use Rattle.dd_graph.specs.declared.node.Entry.{Entry}
use Rattle.dd_graph.specs.declared.node.Node.{Node}
use Rattle.dd_graph.specs.declared.node.Node.TheVariants as node
use Rattle.dd_graph.specs.Reached.{IsReachedIn, start}
use Rattle.dd_graph.specs.View.{GraphView, node_at, rules_at}
use Rattle.dd_open.specs.Models.{labels_of}
use Rattle.dd_open.specs.Builds.{AreElements, ArePairs, Builds, GoesOn}
use Rattle.dd_open.specs.Ways.{LeadsTo, IsOpenDone}
use Rattle.dd_interp.specs.Lean.{IsAsked}
use Rattle.std.proofs.lemmas.List.Elements.{All-nil}
use Rattle.dd_graph.proofs.Lists.{place_at as item}

-- the numbers of a label are below its width
pub numbers-below : (width : ℕ) (l ns : List ℕ) → IsPacked width l → ns ≡ numbers l width → All (λ n. n < width) ns
numbers-below width l ns packed is k d lt =
    let at : slice_get ns k ≡ Some (get_or ns k d) = slice_get-get_or ns k d lt in
    let zero_at : get_or ns k 0 ≡ get_or ns k d = get_or_from_slice_get ns k (get_or ns k d) 0 at in
    let among : is_among (get_or ns k d) ns ≡ true = ap (λ n. is_among n ns) (sym zero_at) ∙ among-at ns k lt in
    packed.within (get_or ns k d) (sym (among-numbers width l (get_or ns k d) packed) ∙ ap (is_among (get_or ns k d)) (sym is) ∙ among)

done-pairs : (p q : List (ℕ × ℕ)) → node.Done p ≡ node.Done q → p ≡ q
done-pairs p q e = cc

node-done : (v : GraphView) (at : ℕ) (done : IsOpenDone v at) → node_at v at ≡ node.Done done.pairs
node-done v at done = ap (λ o. option_map_or (λ (e : Entry). e.node) o node.Fresh) done.is_entry ∙ done.is_done

-- the pairs that the node has are those of the element
pub are-pairs : (v : GraphView) (goal x at : ℕ) (elements : List ℕ) (to pairs : List (ℕ × ℕ)) → AreElements v goal elements → slice_get elements x ≡ Some at → node_at v at ≡ node.Done to → pairs ≡ to
    → ArePairs v elements x pairs
are-pairs v goal x at elements to pairs each there is same =
    let done = each.done x at there in
    record { position = at; there = there; done = done; same = same ∙ done-pairs to done.pairs (sym is ∙ node-done v at done) }

-- the node of an element is never another one
pub never-other : (v : GraphView) (goal x at : ℕ) (elements : List ℕ) → AreElements v goal elements → slice_get elements x ≡ Some at → (n : Node) → n ≡ node_at v at
    → ((to : List (ℕ × ℕ)) → n ≡ node.Done to → ⊥) → ⊥
never-other v goal x at elements each there n is other = let done = each.done x at there in other done.pairs (is ∙ node-done v at done)

-- a list that goes on is no shorter
pub goes-on_length : (old new : List ℕ) → GoesOn old new → length old ≤ length new
goes-on_length old new goes = elim (cases_lt (length new) (length old)) [
  | inl lt ↦
      let q = item old (length new) lt in
      let within = slice_get_within new (length new) q.0 (goes (length new) q.0 q.1) in
      absurd (omega (arith, within))
  | inr le ↦ omega (arith, le)
]

module _ (v : GraphView) where
  -- a model in the making begins with the element that the goal leads to
  pub builds-start : (goal q : ℕ) → LeadsTo v goal q → IsOpenDone v q → q < length v.labels → Builds v goal (with_arrival [] q) [] [] 0
  builds-start goal q way done lt = record {
    each = record {
      once = once-with_arrival (length v.labels) [] q (once-none (length v.labels)) lt;
      done = λ k p e. subst (IsOpenDone v) (only k p e) done;
      reached = λ k p g l e at_g at_l.
          let from : way.from ≡ g = same_Some way.from g (sym way.is_from ∙ at_g) in
          let to : way.to ≡ l = same_Some way.to l (sym way.is_to ∙ ap (slice_get v.labels) (only k p e) ∙ at_l) in
          subst (λ w. IsReachedIn (rules_at v) (has g) (has w)) to (way.reached (has g) (subst (λ w. IsReachedIn (rules_at v) (has g) (has w)) (sym from) ∣ start ∣₁));
    };
    names_below = All-nil (λ (p : ℕ × ℕ). p.1 < 0);
    names_right = λ k p l lt. absurd (omega (arith, lt));
    roles_right = All-nil (IsAsked (labels_of v (with_arrival [] q)));
    somes = λ k p l lt. absurd (omega (arith, lt));
  }
    where
      only : (k p : ℕ) → slice_get (q ∷ []) k ≡ Some p → q ≡ p
      only zero p e = same_Some q p e
      only (suc k) p e = cc
