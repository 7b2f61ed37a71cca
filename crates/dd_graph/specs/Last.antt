-- The label for which a call had no room.
use Rattle.std.specs.Prelude.{ℕ, ◌≡◌, ◌≢◌, List, slice_get, Some}
use Rattle.dd_set.specs.Words.{has, IsPacked}
use Rattle.dd_graph.specs.declared.decided.Decided.{Decided}
use Rattle.dd_graph.specs.declared.decided.Decided.TheVariants as decided
use Rattle.dd_graph.specs.declared.kernel.Kernel.{Kernel}
use Rattle.dd_graph.specs.Goes.{IsReachedNow}

-- no label may be put any more, and the one with these words is reached and is not there
pub record IsLast (k : Kernel) (next : List ℕ) : Type 0 where
  pub none_left : k.left ≡ 0
  pub reached : IsReachedNow k (has next)
  pub absent : (n : ℕ) → slice_get k.table.list n ≢ Some next
  pub packed : IsPacked k.table.width next

-- the label that Spent tells has this width
abbrev pub NextHasWidth : ℕ → Decided → Type 0
NextHasWidth width (decided.Closed id rank) = Unit {0}
NextHasWidth width (decided.Open id) = Unit {0}
NextHasWidth width (decided.Spent next) = next.width ≡ width
