use Rattle.dd_board.proofs.Enough.{never-spent}
use Rattle.dd_board.proofs.laws.enough_is_never_spent.Goals as goal

pub returns : goal.returns
returns c = never-spent
