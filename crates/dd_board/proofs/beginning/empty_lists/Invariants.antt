-- A list for each peer so far.
use Rattle.std.proofs.Common.{◌≡◌, take}
use Rattle.dd_board.specs.Beginning.{no_props}
use Rattle.dd_board.proofs.beginning.empty_lists.Given as goal

abbrev pub invariant-loop-peer : goal.invariant-loop-peer
invariant-loop-peer l = l.lists ≡ no_props (take l.peer-index l.peers)
