-- The marked numbers so far.
use Rattle.std.proofs.Common.{◌≡◌, filter}
use Rattle.std.specs.List.{range_with_len}
use Rattle.dd_peer.specs.Marks.{is_marked}
use Rattle.dd_peer.proofs.relevant.listed.Given as goal

abbrev pub invariant-loop-k : goal.invariant-loop-k
invariant-loop-k l = l.list.items ≡ filter (is_marked l.marks) (range_with_len 0 l.k)
