-- The links from the peers so far.
use Rattle.std.proofs.Common.{◌≡◌, ◌++◌}
use Rattle.std.specs.List.{flat_map, range_with_len}
use Rattle.dd_board.specs.Boards.{OfSession}
use Rattle.dd_union.specs.Pieces.{joined_from}
use Rattle.dd_union.proofs.links.join_peers.Given as goal

abbrev pub invariant-loop-h : goal.invariant-loop-h
invariant-loop-h l = OfSession (λ v. l.links ≡ l.initial.links ++ flat_map (joined_from v l.places l.to l.model l.raised) (range_with_len 0 l.h)) l.b l.session
