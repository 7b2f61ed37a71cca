-- The links to the parts of the tasks so far.
use Rattle.std.proofs.Common.{◌≡◌}
use Rattle.std.specs.List.{flat_map, range_with_len}
use Rattle.dd_board.specs.Boards.{OfSession}
use Rattle.dd_union.specs.Pieces.{joined_at}
use Rattle.dd_union.proofs.links.join_all.Given as goal

abbrev pub invariant-loop-t : goal.invariant-loop-t
invariant-loop-t l = OfSession (λ v. l.links ≡ flat_map (joined_at v l.places) (range_with_len 0 l.t)) l.b l.session
