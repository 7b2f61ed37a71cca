-- The labels on which it depends whether the goal is open, in the order in which they are looked at.
use Rattle.std.specs.Prelude.{ℕ, zero, suc, ◌≡◌, ◌<◌, ◌&&◌, ◌||◌, nat_lt, not, Bool, true, false, List, [], ◌∷◌, map, length, slice_get, if◌then◌else◌, Option, None, Some}
use Rattle.std.specs.List.{list_any, list_all}
use Rattle.std.specs.Option.{option_map_or}
use Rattle.dd_set.specs.Marked.{is_among, with_arrival}
use Rattle.dd_set.specs.Words.{has}
use Rattle.dd_graph.specs.declared.kernel.Kernel.{Kernel}
use Rattle.dd_graph.specs.declared.node.Entry.{Entry}
use Rattle.dd_graph.specs.declared.node.Node.{Node}
use Rattle.dd_graph.specs.declared.node.Node.TheVariants as node
use Rattle.dd_graph.specs.Goes.{IsReachedNow, is_unfinished, width_in}
use Rattle.dd_graph.specs.Right.{rank_at, open_at}
use Rattle.dd_graph.specs.View.{is_some_rank}

-- the first position whose label is not closed
abbrev pub first_free : List Entry → List ℕ → Option ℕ
first_free entries [] = None
first_free entries (t ∷ ts) = if is_some_rank (rank_at entries t) then first_free entries ts else Some t

-- the position with this place, where its label is not closed, and else the first such
abbrev pub taken : List Entry → ℕ → List ℕ → Option ℕ
taken entries hint ts = option_map_or (λ t. if is_some_rank (rank_at entries t) then first_free entries ts else Some t) (slice_get ts hint) (first_free entries ts)

-- the positions that a label with this node needs to be open: the larger one, one that its step gives, all that its
-- existential restrictions ask for
abbrev pub needed_of : List Entry → ℕ → Node → List ℕ
needed_of entries hint node.Fresh = []
needed_of entries hint (node.Clash c) = []
needed_of entries hint (node.Larger t) = t ∷ []
needed_of entries hint (node.Split s to) = option_map_or (λ t. t ∷ []) (taken entries hint to) []
needed_of entries hint (node.Done to) = map (λ p. p.1) to

-- the list with each of these behind it that is not there yet
abbrev pub with_all : List ℕ → List ℕ → List ℕ
with_all ns [] = ns
with_all ns (t ∷ ts) = with_all (with_arrival ns t) ts

-- is a label with this node kept open by the positions that pass the test
abbrev pub sustains : ℕ → (ℕ → Bool) → ℕ → Node → Bool
sustains width ok upto node.Fresh = false
sustains width ok upto (node.Clash c) = false
sustains width ok upto (node.Larger t) = ok t
sustains width ok upto (node.Split s to) = list_any ok to
sustains width ok upto (node.Done to) = not (nat_lt upto width) && list_all (λ p. ok p.1) to

-- is the position one of the list, or open
abbrev pub is_held : List Entry → List ℕ → ℕ → Bool
is_held entries ns t = open_at entries t || is_among t ns

-- The goal is among the positions. Their labels are reached and not closed, and those that were looked at, the ones before
-- this place, are kept open by labels of the list or by open ones.
pub record IsTrail (k : Kernel) (at : ℕ) (ns : List ℕ) : Type 0 where
  pub goal : is_among k.goal ns ≡ true
  pub within : (n : ℕ) → is_among n ns ≡ true → n < length k.entries.items
  pub free : (n : ℕ) → is_among n ns ≡ true → rank_at k.entries.items n ≡ None
  pub reached : (n : ℕ) (l : List ℕ) → is_among n ns ≡ true → slice_get k.table.list n ≡ Some l → IsReachedNow k (has l)
  pub kept : (i n : ℕ) (e : Entry) → i < at → slice_get ns i ≡ Some n → slice_get k.entries.items n ≡ Some e
      → sustains (width_in k) (is_held k.entries.items ns) e.upto e.node ≡ true

-- the label at this position is reached and unfinished
pub record IsLeft (k : Kernel) (id : ℕ) : Type 0 where
  pub within : id < length k.table.list
  pub unfinished : option_map_or (is_unfinished (width_in k) k.entries.items k.closed) (slice_get k.entries.items id) false ≡ true
  pub reached : (l : List ℕ) → slice_get k.table.list id ≡ Some l → IsReachedNow k (has l)

-- the entries of these positions are open now
abbrev pub open_one : List Entry → ℕ → List Entry
open_one [] n = []
open_one (e ∷ es) zero = record e { «open» = true } ∷ es
open_one (e ∷ es) (suc n) = e ∷ open_one es n

abbrev pub open_all : List Entry → List ℕ → List Entry
open_all es [] = es
open_all es (n ∷ ns) = open_all (open_one es n) ns

-- the list after a look at this position
abbrev pub looked_at : List Entry → ℕ → ℕ → List ℕ → List ℕ
looked_at entries hint id ns = option_map_or (λ (e : Entry). if e.open then ns else with_all ns (needed_of entries hint e.node)) (slice_get entries id) ns
