-- The board is the one at the start with more events, and nothing is held. Each turn is a post.
use Rattle.dd_work.specs.Settled.{ExtendEach, HasNothingHeld}
use Rattle.dd_work.specs.Turns.{left}
use Rattle.dd_work.proofs.settle.settle.Given as goal

abbrev pub invariant-loop : goal.invariant-loop
invariant-loop l = ExtendEach l.initial.board l.board × HasNothingHeld l.board

abbrev pub decreases-loop : goal.decreases-loop
decreases-loop l = left l.board
