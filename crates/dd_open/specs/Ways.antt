-- The way from an open label to the complete one that it leads to.
use Rattle.std.specs.Prelude.{ℕ, ◌≡◌, ◌<◌, Bool, true, List, length, slice_get, Some}
use Rattle.dd_set.specs.Words.{has}
use Rattle.dd_rules.specs.Least.{Implies}
use Rattle.dd_graph.specs.Reached.{IsReachedIn}
use Rattle.dd_graph.specs.declared.node.Entry.{Entry}
use Rattle.dd_graph.specs.declared.node.Node.TheVariants as node
use Rattle.dd_graph.specs.View.{GraphView, IsAt, rules_at, is_open_at}

-- the label at the second position has all that the first one has, and is reached from wherever that one is
pub record LeadsTo (v : GraphView) (a b : ℕ) : Type 0 where
  pub from : List ℕ
  pub to : List ℕ
  pub is_from : IsAt v a from
  pub is_to : IsAt v b to
  pub within : Implies (has from) (has to)
  pub reached : (goal : ℕ → Bool) → IsReachedIn (rules_at v) goal (has from) → IsReachedIn (rules_at v) goal (has to)

-- at this position an open label stands in which all is decided, and whose existential restrictions were all looked at
pub record IsOpenDone (v : GraphView) (id : ℕ) : Type 0 where
  pub entry : Entry
  pub pairs : List (ℕ × ℕ)
  pub is_entry : slice_get v.entries id ≡ Some entry
  pub open_now : entry.open ≡ true
  pub is_done : entry.node ≡ node.Done pairs

-- for a private loop: the way from the first position has come to an open one
pub record IsOnWay (v : GraphView) (id at : ℕ) : Type 0 where
  pub within : at < length v.labels
  pub open_now : is_open_at v at ≡ true
  pub leads : LeadsTo v id at
