-- When what is kept of the labels is right. A label is a list of words, and is read as the test of its numbers.
use Rattle.std.specs.Prelude.{ℕ, ◌≡◌, ◌≢◌, ◌<◌, ◌==◌, ◌&&◌, ◌||◌, ◌+◌, ◌-◌, nat_lt, not, Bool, true, false, List, length, sum_by, slice_get, Option, None, Some}
use Rattle.std.specs.List.{list_any, list_all}
use Rattle.std.specs.Option.{option_map_or}
use Rattle.dd_set.specs.Words.{has}
use Rattle.dd_rules.specs.declared.shape.Shape.{Shape}
use Rattle.dd_rules.specs.declared.shape.Shape.TheVariants as shape
use Rattle.dd_rules.specs.declared.shape.Step.{Step}
use Rattle.dd_rules.specs.Least.{IsLeastSaturated}
use Rattle.dd_rules.specs.Numbers.{Rules, is_saturated, has_clash, is_complete, calls_for, additions, IsSuccessor}
use Rattle.dd_rules.specs.declared.clash.Clash.{Clash}
use Rattle.dd_rules.specs.Forced.{is_clash}
use Rattle.dd_graph.specs.declared.node.Entry.{Entry}
use Rattle.dd_graph.specs.declared.node.Node.{Node}
use Rattle.dd_graph.specs.declared.node.Node.TheVariants as node

-- ---- words on labels

-- the label with one number more
abbrev pub adding : ℕ → (ℕ → Bool) → ℕ → Bool
adding n p k = (k == n) || p k

abbrev pub is_some_shape : Shape → Bool
is_some_shape (shape.HasSome role c) = true
is_some_shape _ = false

-- is this the number of an existential restriction of the label
abbrev pub is_some_in : Rules → (ℕ → Bool) → ℕ → Bool
is_some_in r p n = p n && option_map_or is_some_shape (slice_get r.shapes n) false

-- how many concepts there are
abbrev pub width_of : Rules → ℕ
width_of r = length r.shapes

-- the label is saturated and has no clash
pub record IsClear (r : Rules) (p : ℕ → Bool) : Type 0 where
  pub saturated : is_saturated r p ≡ true
  pub no_clash : has_clash r p ≡ false

-- at this position stands the least saturated label that has the given one
pub record IsLeastAt (r : Rules) (labels : List (List ℕ)) (p : ℕ → Bool) (t : ℕ) : Type 0 where
  pub there : t < length labels
  pub least : (m : List ℕ) → slice_get labels t ≡ Some m → IsLeastSaturated r p (has m)

-- at this position stands the label that the restriction with the number n asks of an element along its role
pub record IsSuccessorAt (r : Rules) (labels : List (List ℕ)) (p : ℕ → Bool) (n t : ℕ) : Type 0 where
  pub there : t < length labels
  pub restricts : is_some_in r p n ≡ true
  pub follows : (role c : ℕ) (m : List ℕ) → slice_get r.shapes n ≡ Some (shape.HasSome role c) → slice_get labels t ≡ Some m → IsSuccessor r p role c (has m)

-- ---- what a node says

-- the label's node says what was done at it
pub record IsNode (r : Rules) (labels : List (List ℕ)) (l : List ℕ) (n : Node) : Type 0 where
  pub clash : (c : Clash) → n ≡ node.Clash c → is_clash r (has l) c ≡ true
  pub larger : (t : ℕ) → n ≡ node.Larger t → IsLeastAt r labels (has l) t × (slice_get labels t ≢ Some l)
  pub clear_split : (s : Step) (to : List ℕ) → n ≡ node.Split s to → IsClear r (has l)
  pub calls : (s : Step) (to : List ℕ) → n ≡ node.Split s to → calls_for r (has l) s ≡ true
  pub as_many : (s : Step) (to : List ℕ) → n ≡ node.Split s to → length to ≡ length (additions r s)
  pub split : (s : Step) (to : List ℕ) → n ≡ node.Split s to → (i c t : ℕ) → slice_get (additions r s) i ≡ Some c → slice_get to i ≡ Some t
      → IsLeastAt r labels (adding c (has l)) t
  pub clear_done : (to : List (ℕ × ℕ)) → n ≡ node.Done to → IsClear r (has l)
  pub done : (to : List (ℕ × ℕ)) → n ≡ node.Done to → (i n t : ℕ) → slice_get to i ≡ Some (n, t) → IsSuccessorAt r labels (has l) n t

-- ---- ranks and open labels

abbrev pub rank_at : List Entry → ℕ → Option ℕ
rank_at entries t = option_map_or (λ (e : Entry). e.rank) (slice_get entries t) None

abbrev pub open_at : List Entry → ℕ → Bool
open_at entries t = option_map_or (λ (e : Entry). e.open) (slice_get entries t) false

-- is there a rank, and is it below the bound
abbrev pub is_below : ℕ → Option ℕ → Bool
is_below k None = false
is_below k (Some j) = nat_lt j k

-- May a label with this node be closed, given the labels whose rank is below the bound? Where it has a clash; where it is
-- within one that is closed; where each label that its step gives is closed; where an element along a role cannot be had.
abbrev pub closes : List Entry → ℕ → Node → Bool
closes entries k node.Fresh = false
closes entries k (node.Clash c) = true
closes entries k (node.Larger t) = is_below k (rank_at entries t)
closes entries k (node.Split s to) = list_all (λ t. is_below k (rank_at entries t)) to
closes entries k (node.Done to) = list_any (λ p. is_below k (rank_at entries p.1)) to

-- Is a label with this node kept open by others? By the larger one, by one of those that its step gives, or by all that its
-- existential restrictions ask for.
abbrev pub stays_open : ℕ → List Entry → ℕ → Node → Bool
stays_open width entries upto node.Fresh = false
stays_open width entries upto (node.Clash c) = false
stays_open width entries upto (node.Larger t) = open_at entries t
stays_open width entries upto (node.Split s to) = list_any (open_at entries) to
stays_open width entries upto (node.Done to) = not (nat_lt upto width) && list_all (λ p. open_at entries p.1) to

-- what is kept of a label is right
pub record IsEntry (r : Rules) (labels : List (List ℕ)) (entries : List Entry) (l : List ℕ) (e : Entry) : Type 0 where
  pub says : IsNode r labels l e.node
  pub ranked : (k : ℕ) → e.rank ≡ Some k → closes entries k e.node ≡ true
  pub complete : (to : List (ℕ × ℕ)) → e.node ≡ node.Done to → e.rank ≡ None → is_complete r (has l) ≡ true
  pub covered : (to : List (ℕ × ℕ)) (n : ℕ) → e.node ≡ node.Done to → n < e.upto → is_some_in r (has l) n ≡ true → list_any (λ p. p.0 == n) to ≡ true
  pub unranked : e.open ≡ true → e.rank ≡ None
  pub opened : e.open ≡ true → stays_open (width_of r) entries e.upto e.node ≡ true
  pub clear : e.clear ≡ true → IsClear r (has l)

abbrev pub one_if_some : Option ℕ → ℕ
one_if_some None = 0
one_if_some (Some k) = 1

-- What is kept of each label is right. Ranks are below the number of closed labels, and no two labels have one rank.
pub record AreEntries (r : Rules) (labels : List (List ℕ)) (entries : List Entry) (closed : ℕ) : Type 0 where
  pub sized : length entries ≡ length labels
  pub few : closed ≡ sum_by (λ (e : Entry). one_if_some e.rank) entries
  pub below : (k j : ℕ) → rank_at entries k ≡ Some j → j < closed
  pub apart : (k m j : ℕ) → rank_at entries k ≡ Some j → rank_at entries m ≡ Some j → k ≡ m
  pub each : (k : ℕ) (l : List ℕ) (e : Entry) → slice_get labels k ≡ Some l → slice_get entries k ≡ Some e → IsEntry r labels entries l e

-- ---- what is still to be done

abbrev pub one_if_none : Option ℕ → ℕ
one_if_none None = 1
one_if_none (Some k) = 0

abbrev pub effort_at : ℕ → ℕ → Node → ℕ
effort_at width upto node.Fresh = width + 1
effort_at width upto (node.Clash c) = 0
effort_at width upto (node.Larger t) = 0
effort_at width upto (node.Split s to) = 0
effort_at width upto (node.Done to) = width - upto

-- the steps that a label may take until it is closed or nothing is left to do at it
abbrev pub effort_of : ℕ → Entry → ℕ
effort_of width e = effort_at width e.upto e.node + one_if_none e.rank

abbrev pub effort : ℕ → List Entry → ℕ
effort width entries = sum_by (effort_of width) entries
