-- The parts of the tasks so far are placed.
use Rattle.std.proofs.Common.{◌≡◌, length}
use Rattle.dd_board.specs.Boards.{OfSession}
use Rattle.dd_union.specs.Pieces.{ArePlaced}
use Rattle.dd_union.proofs.place.place_all.Given as goal

abbrev pub invariant-loop-t : goal.invariant-loop-t
invariant-loop-t l = (length l.places.items ≡ l.t) × OfSession (λ v. ArePlaced v l.places.items l.locals.items) l.b l.session
