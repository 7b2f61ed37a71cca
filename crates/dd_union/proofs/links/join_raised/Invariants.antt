-- The links from the parts of the tasks so far.
use Rattle.std.proofs.Common.{◌≡◌, ◌++◌, take}
use Rattle.std.specs.List.{flat_map}
use Rattle.dd_board.specs.Boards.{OfSession}
use Rattle.dd_union.specs.Pieces.{joined_with}
use Rattle.dd_union.proofs.links.join_raised.Given as goal

abbrev pub invariant-loop-u : goal.invariant-loop-u
invariant-loop-u l = OfSession (λ v. l.links ≡ l.initial.links ++ flat_map (joined_with v l.places l.rows l.h l.to) (take l.u-index l.raised)) l.b l.session
