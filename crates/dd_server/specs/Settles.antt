-- What a window asks of whoever settles its board, and what it is promised.
use Rattle.std.specs.Prelude.{List}
use Rattle.dd_board.specs.View.{SessionView}
use Rattle.dd_work.specs.Fit.{AreFit}
use Rattle.dd_work.specs.Settled.{ExtendEach, HasNothingHeld}

-- all jobs are fit, and nothing is held
abbrev pub CanSettle : List SessionView → Type 0
CanSettle board = AreFit board × HasNothingHeld board

-- the sessions are the same, each with more events
abbrev pub Settles : List SessionView → List SessionView → Type 0
Settles old new = ExtendEach old new
