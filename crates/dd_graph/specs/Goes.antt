-- What the calls of the kernel may change.
use Rattle.std.specs.Prelude.{ℕ, ◌≡◌, ◌≢◌, ◌+◌, ◌*◌, ◌<◌, ◌≤◌, nat_lt, ◌&&◌, ◌||◌, not, Bool, true, false, List, [], ◌∷◌, ◌++◌, length, replicate, slice_get, slice_set, Option, Some, None, IfSome}
use Rattle.std.specs.Option.{option_map_or}
use Rattle.dd_set.specs.Words.{Label, has}
use Rattle.dd_graph.specs.declared.kernel.Kernel.{Kernel}
use Rattle.dd_graph.specs.declared.node.Entry.{Entry}
use Rattle.dd_graph.specs.declared.node.Node.{Node}
use Rattle.dd_graph.specs.declared.node.Node.TheVariants as node
use Rattle.dd_graph.specs.Reached.{IsReachedIn}
use Rattle.dd_graph.specs.Right.{IsLeastAt, adding, closes, effort, width_of}
use Rattle.dd_rules.specs.Numbers.{Rules, additions}
use Rattle.dd_rules.specs.declared.shape.Step.{Step}
use Rattle.dd_graph.specs.View.{GraphView, kernel_view, rules_at, Keeps, is_settled, is_some_rank}

-- how many concepts there are
abbrev pub width_in : Kernel → ℕ
width_in k = width_of (rules_at (kernel_view k))

-- what is still to be done, at the labels that are there and at those that may still be put
abbrev pub work : Kernel → ℕ
work k = effort (width_in k) k.entries.items + (width_in k + 2) * k.left

-- the present call's label is there
abbrev pub IsBegun : Kernel → Type 0
IsBegun k = k.goal < length k.table.list

-- the label is reached from the present call's label
abbrev pub IsReachedNow : Kernel → (ℕ → Bool) → Type 0
IsReachedNow k p = (g : List ℕ) → slice_get k.table.list k.goal ≡ Some g → IsReachedIn (rules_at (kernel_view k)) (has g) p

-- Labels are only added, and are then known to be reached; closed and open labels stay as they are; what is reached stays so;
-- and there is not more to be done than before.
pub record Goes (old new : Kernel) : Type 0 where
  pub keeps : Keeps (kernel_view old) (kernel_view new)
  pub goal : new.goal ≡ old.goal
  pub begun : IsBegun new
  pub room : length new.table.list + new.left ≡ length old.table.list + old.left
  pub less : new.left ≤ old.left
  pub marks : (k : ℕ) → slice_get old.reached.items k ≡ Some true → slice_get new.reached.items k ≡ Some true
  pub new_marks : (k : ℕ) → length old.table.list ≤ k → k < length new.table.list → slice_get new.reached.items k ≡ Some true
  pub work : work new ≤ work old

-- there is less to be done than before
pub record Lessens (old new : Kernel) : Type 0 where
  pub less : work new < work old

-- labels may be added and noted, and then there is less to be done
abbrev pub Expands : Kernel → Kernel → Type 0
Expands old new = Goes old new × Lessens old new

-- labels are added, and what is kept of each old one stays as it is
pub record Puts (old new : Kernel) : Type 0 where
  pub goes : Goes old new
  pub entries : (k : ℕ) (e : Entry) → slice_get old.entries.items k ≡ Some e → slice_get new.entries.items k ≡ Some e

-- what is kept of one label is this now, and nothing else changes but the number of closed labels
pub record Sets (id : ℕ) (e : Entry) (old new : Kernel) : Type 0 where
  pub compiled : new.compiled ≡ old.compiled
  pub props : new.props ≡ old.props
  pub table : new.table ≡ old.table
  pub entries : new.entries.items ≡ slice_set old.entries.items id e
  pub goal : new.goal ≡ old.goal
  pub reached : new.reached.items ≡ old.reached.items
  pub left : new.left ≡ old.left

-- the label is neither closed nor open
abbrev pub IsFree : Kernel → ℕ → Type 0
IsFree k id = (e : Entry) × (slice_get k.entries.items id ≡ Some e) × (is_settled e ≡ false)

-- a claim on the label at this position
abbrev pub AtLabel : Kernel → ℕ → (List ℕ → Type 0) → Type 0
AtLabel k id claim = (l : List ℕ) → slice_get k.table.list id ≡ Some l → claim l

-- what is kept of the label is this now, made from what was kept
abbrev pub SetsBy : ℕ → (Entry → Entry) → Kernel → Kernel → Type 0
SetsBy id made old new = (e : Entry) → slice_get old.entries.items id ≡ Some e → Sets id (made e) old new

-- nothing changes but what is kept for a label without room
pub record Idles (old new : Kernel) : Type 0 where
  pub compiled : new.compiled ≡ old.compiled
  pub props : new.props ≡ old.props
  pub table : new.table ≡ old.table
  pub entries : new.entries.items ≡ old.entries.items
  pub goal : new.goal ≡ old.goal
  pub reached : new.reached.items ≡ old.reached.items
  pub left : new.left ≡ old.left

-- a call begins: no label is known to be reached yet
pub record Restarts (at budget : ℕ) (old new : Kernel) : Type 0 where
  pub compiled : new.compiled ≡ old.compiled
  pub props : new.props ≡ old.props
  pub table : new.table ≡ old.table
  pub entries : new.entries.items ≡ old.entries.items
  pub goal : new.goal ≡ at
  pub reached : new.reached.items ≡ replicate (length old.table.list) false
  pub left : new.left ≡ budget

-- A call about the label has begun: the label is there and reached, and nothing else is but what is new. What the call may put
-- is left, but for the label itself where it is new.
pub record Begins (id : ℕ) (l : List ℕ) (budget : ℕ) (old new : Kernel) : Type 0 where
  pub keeps : Keeps (kernel_view old) (kernel_view new)
  pub goal : new.goal ≡ id
  pub found : slice_get new.table.list id ≡ Some l
  pub reached : slice_get new.reached.items id ≡ Some true
  pub room : length new.table.list + new.left ≡ length old.table.list + budget
  pub new_marks : (k : ℕ) → length old.table.list ≤ k → k < length new.table.list → slice_get new.reached.items k ≡ Some true

-- there are the same labels as before
pub record Stays (old new : Kernel) : Type 0 where
  pub keeps : Keeps (kernel_view old) (kernel_view new)
  pub table : new.table ≡ old.table

-- this label is known to be reached now, and nothing else changes
pub record Marks (id : ℕ) (old new : Kernel) : Type 0 where
  pub compiled : new.compiled ≡ old.compiled
  pub props : new.props ≡ old.props
  pub table : new.table ≡ old.table
  pub entries : new.entries.items ≡ old.entries.items
  pub goal : new.goal ≡ old.goal
  pub reached : new.reached.items ≡ slice_set old.reached.items id true
  pub left : new.left ≡ old.left

-- a label at which nothing was done
abbrev pub blank : Bool → Entry
blank clear = record { node = node.Fresh; rank = None; «open» = false; upto = 0; clear = clear }

-- one label is added, at which nothing was done
pub record Adds (l : List ℕ) (clear : Bool) (old new : Kernel) : Type 0 where
  pub compiled : new.compiled ≡ old.compiled
  pub props : new.props ≡ old.props
  pub labels : new.table.list ≡ old.table.list ++ l ∷ []
  pub entries : new.entries.items ≡ old.entries.items ++ blank clear ∷ []
  pub goal : new.goal ≡ old.goal
  pub reached : new.reached.items ≡ old.reached.items ++ true ∷ []
  pub left : new.left + 1 ≡ old.left

-- the positions are those of the labels that the step gives
pub record AreChildren (r : Rules) (labels : List (List ℕ)) (p : ℕ → Bool) (s : Step) (to : List ℕ) : Type 0 where
  pub least : (i c t : ℕ) → slice_get (additions r s) i ≡ Some c → slice_get to i ≡ Some t → IsLeastAt r labels (adding c p) t

-- the label at this position is reached and neither closed nor open, and nothing was done at it
pub record IsFreshAt (k : Kernel) (id : ℕ) (l : List ℕ) : Type 0 where
  pub entry : Entry
  pub here : slice_get k.entries.items id ≡ Some entry
  pub unsettled : is_settled entry ≡ false
  pub fresh : entry.node ≡ node.Fresh
  pub label : slice_get k.table.list id ≡ Some l
  pub reached : IsReachedNow k (has l)

-- the label at this position is reached and neither closed nor open, and its existential restrictions from this number on have
-- no pair yet
pub record IsDoneAt (k : Kernel) (id upto : ℕ) : Type 0 where
  pub entry : Entry
  pub here : slice_get k.entries.items id ≡ Some entry
  pub unsettled : is_settled entry ≡ false
  pub to : List (ℕ × ℕ)
  pub done : entry.node ≡ node.Done to
  pub from : entry.upto ≡ upto
  pub below : upto < width_in k
  pub within : id < length k.table.list
  pub reached : AtLabel k id (λ l. IsReachedNow k (has l))

-- the label without room is reached and is not there
pub record IsFull (k : Kernel) : Type 0 where
  pub none_left : k.left ≡ 0
  pub there : k.next ≢ None
  pub reached : (next : Label) → k.next ≡ Some next → IsReachedNow k (has next.words)
  pub packed : (next : Label) → k.next ≡ Some next → next.width ≡ k.table.width
  pub absent : (next : Label) (n : ℕ) → k.next ≡ Some next → slice_get k.table.list n ≢ Some next.words

-- is there something to do at a label with this node that its node alone tells
abbrev pub is_begun : ℕ → ℕ → Node → Bool
is_begun width upto node.Fresh = true
is_begun width upto (node.Done to) = nat_lt upto width
is_begun width upto _ = false

-- is the label neither closed nor open, and can it be closed or expanded
abbrev pub is_unfinished : ℕ → List Entry → ℕ → Entry → Bool
is_unfinished width entries closed e = not (is_some_rank e.rank || e.open) && (is_begun width e.upto e.node || closes entries closed e.node)

abbrev pub unfinished_at : Kernel → ℕ → Bool
unfinished_at k id = option_map_or (λ b. b) (slice_get k.reached.items id) false
    && option_map_or (is_unfinished (width_in k) k.entries.items k.closed) (slice_get k.entries.items id) false

-- can the label be closed
abbrev pub is_closable : List Entry → ℕ → Entry → Bool
is_closable entries closed e = not (is_some_rank e.rank || e.open) && closes entries closed e.node

abbrev pub closable_at : List Entry → ℕ → ℕ → Bool
closable_at entries closed id = option_map_or (is_closable entries closed) (slice_get entries id) false
