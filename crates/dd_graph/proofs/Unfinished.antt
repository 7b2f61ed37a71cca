-- What is known of a label that is unfinished.
use Rattle.std.proofs.Common.{◌≡◌, ◌≢◌, ◌∙◌, ℕ, ◌<◌, Bool, true, false, not, ◌&&◌, ◌||◌, List, length, Option, None, Some, slice_get, refl, sym, ap, subst, inl, inr, nat_lt}
use Rattle.std.specs.Option.{option_map_or}
use Rattle.std.proofs.lemmas.Bool.{false≢true, and_parts, or_cases, not-true, ltb-true}
use Rattle.std.proofs.lemmas.Option.{slice_get_within}
use Rattle.dd_set.specs.Words.{has}
use Rattle.dd_graph.specs.declared.kernel.Kernel.{Kernel}
use Rattle.dd_graph.specs.declared.node.Entry.{Entry}
use Rattle.dd_graph.specs.declared.node.Node.{Node}
use Rattle.dd_graph.specs.declared.node.Node.TheVariants as node
use Rattle.dd_graph.specs.Goes.{AtLabel, IsDoneAt, IsFreshAt, IsReachedNow, closable_at, is_begun, is_closable, is_unfinished, unfinished_at, width_in}
use Rattle.dd_graph.specs.Right.{IsClear, closes}
use Rattle.dd_graph.specs.View.{kernel_view, rules_at, is_settled}

-- it is reached, it is neither closed nor open, and there is something to do at it
pub record Unfinished (k : Kernel) (id : ℕ) : Type 0 where
  pub entry : Entry
  pub here : slice_get k.entries.items id ≡ Some entry
  pub marked : slice_get k.reached.items id ≡ Some true
  pub unsettled : is_settled entry ≡ false
  pub work : (is_begun (width_in k) entry.upto entry.node || closes k.entries.items k.closed entry.node) ≡ true

marked_true : (o : Option Bool) → option_map_or (λ b. b) o false ≡ true → o ≡ Some true
marked_true None h = absurd (false≢true h)
marked_true (Some b) h = ap Some h

pub unfinished : (k : Kernel) (id : ℕ) → unfinished_at k id ≡ true → Unfinished k id
unfinished k id h = go (slice_get k.entries.items id) refl both.1
  where
    both : (option_map_or (λ b. b) (slice_get k.reached.items id) false ≡ true) × (option_map_or (is_unfinished (width_in k) k.entries.items k.closed) (slice_get k.entries.items id) false ≡ true)
    both = and_parts _ _ h

    go : (o : Option Entry) → slice_get k.entries.items id ≡ o → option_map_or (is_unfinished (width_in k) k.entries.items k.closed) o false ≡ true → Unfinished k id
    go None is t = absurd (false≢true t)
    go (Some e) is t =
        let parts = and_parts (not (is_settled e)) (is_begun (width_in k) e.upto e.node || closes k.entries.items k.closed e.node) t in
        record { entry = e; here = is; marked = marked_true (slice_get k.reached.items id) both.0; unsettled = not-true (is_settled e) parts.0; work = parts.1 }

-- a marked label is reached
pub marked-reached : (k : Kernel) (id : ℕ) (l : List ℕ) → slice_get k.reached.items id ≡ Some true → slice_get k.table.list id ≡ Some l → IsReachedNow k (has l)
marked-reached k id l marked at g is_g = k.from_goal id g l marked is_g at

-- where it cannot be closed, its node tells what is to be done
pub begun-node : (k : Kernel) (id : ℕ) (h : Unfinished k id) → closable_at k.entries.items k.closed id ≡ false → is_begun (width_in k) h.entry.upto h.entry.node ≡ true
begun-node k id h shut = elim (or_cases (is_begun (width_in k) h.entry.upto h.entry.node) (closes k.entries.items k.closed h.entry.node) h.work) [
  | inl begun ↦ begun
  | inr closing ↦ absurd (false≢true (sym shut ∙ ap (λ o. option_map_or (is_closable k.entries.items k.closed) o false) h.here ∙ ap (λ b. not b && closes k.entries.items k.closed h.entry.node) h.unsettled ∙ closing))
]

fresh_node : (width upto : ℕ) (n : Node) → is_begun width upto n ≡ true → ((to : List (ℕ × ℕ)) → n ≢ node.Done to) → n ≡ node.Fresh
fresh_node width upto node.Fresh h other = refl
fresh_node width upto (node.Clash c) h other = absurd (false≢true h)
fresh_node width upto (node.Larger t) h other = absurd (false≢true h)
fresh_node width upto (node.Split s to) h other = absurd (false≢true h)
fresh_node width upto (node.Done to) h other = absurd (other to refl)

-- it is fresh, unless it is done
pub unfinished-fresh : (k : Kernel) (id : ℕ) (l : List ℕ) (h : Unfinished k id) → closable_at k.entries.items k.closed id ≡ false
    → ((to : List (ℕ × ℕ)) → h.entry.node ≢ node.Done to) → slice_get k.table.list id ≡ Some l → IsFreshAt k id l
unfinished-fresh k id l h shut other at = record {
  entry = h.entry;
  here = h.here;
  unsettled = h.unsettled;
  fresh = fresh_node (width_in k) h.entry.upto h.entry.node (begun-node k id h shut) other;
  label = at;
  reached = marked-reached k id l h.marked at;
}

pub unfinished-done : (k : Kernel) (id upto : ℕ) (h : Unfinished k id) (to : List (ℕ × ℕ)) → closable_at k.entries.items k.closed id ≡ false
    → h.entry.node ≡ node.Done to → h.entry.upto ≡ upto → id < length k.table.list → IsDoneAt k id upto
unfinished-done k id upto h to shut is from within = record {
  entry = h.entry;
  here = h.here;
  unsettled = h.unsettled;
  to = to;
  done = is;
  from = from;
  below = ltb-true upto (width_in k) (ap (λ n. nat_lt n (width_in k)) (sym from) ∙ ap (is_begun (width_in k) h.entry.upto) (sym is) ∙ begun-node k id h shut);
  within = within;
  reached = λ l at. marked-reached k id l h.marked at;
}

-- the flag tells that the label is clear
pub flagged-clear : (k : Kernel) (id : ℕ) (l : List ℕ) (h : Unfinished k id) → h.entry.clear ≡ true → slice_get k.table.list id ≡ Some l → IsClear (rules_at (kernel_view k)) (has l)
flagged-clear k id l h flag at = (k.right.each id l h.entry at h.here).clear flag

-- a reached label that is neither closed nor open, and at which nothing was done, is unfinished
pub fresh-unfinished : (k : Kernel) (id : ℕ) (e : Entry) → slice_get k.reached.items id ≡ Some true → slice_get k.entries.items id ≡ Some e
    → is_settled e ≡ false → e.node ≡ node.Fresh → unfinished_at k id ≡ true
fresh-unfinished k id e marked here unsettled fresh =
    ap (λ o. option_map_or (λ b. b) o false && option_map_or (is_unfinished (width_in k) k.entries.items k.closed) (slice_get k.entries.items id) false) marked
    ∙ ap (λ o. option_map_or (is_unfinished (width_in k) k.entries.items k.closed) o false) here
    ∙ ap (λ b. not b && (is_begun (width_in k) e.upto e.node || closes k.entries.items k.closed e.node)) unsettled
    ∙ ap (λ n. is_begun (width_in k) e.upto n || closes k.entries.items k.closed n) fresh
