use Rattle.dd_board.proofs.Enough.{no-run-spent}
use Rattle.dd_board.proofs.laws.enough_runs_are_never_spent.Goals as goal

pub returns : goal.returns
returns c = no-run-spent
