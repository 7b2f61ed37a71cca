use Rattle.std.proofs.Common.{length, ◌-◌}
use Rattle.dd_graph.specs.View.{view_of}
use Rattle.dd_set.specs.Sets.{count}
use Rattle.dd_open.specs.Models.{words_at}
use Rattle.dd_open.specs.Ways.{IsOnWay}
use Rattle.dd_open.proofs.resolve.resolve.Given as goal

abbrev pub invariant-loop-next : goal.invariant-loop-next
invariant-loop-next l = IsOnWay (view_of l.g) l.fn.id l.at

abbrev pub decreases-loop-next : goal.decreases-loop-next
decreases-loop-next l = length (view_of l.g).closure.concepts - count (words_at (view_of l.g) l.at) (length (view_of l.g).closure.concepts)
