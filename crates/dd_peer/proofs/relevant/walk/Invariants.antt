-- A walk, which each visit brings nearer to its end.
use Rattle.std.proofs.Common.{◌+◌, length}
use Rattle.dd_peer.specs.Marks.{IsWalk, unmarked}
use Rattle.dd_peer.proofs.relevant.walk.Given as goal

abbrev pub invariant-loop-next : goal.invariant-loop-next
invariant-loop-next l = IsWalk l.p l.peer l.marks l.todo.items

abbrev pub decreases-loop-next : goal.decreases-loop-next
decreases-loop-next l = unmarked l.marks + length l.todo.items
