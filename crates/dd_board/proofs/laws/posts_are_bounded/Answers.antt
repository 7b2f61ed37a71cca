use Rattle.dd_board.proofs.Bounded.{bounded}
use Rattle.dd_board.proofs.laws.posts_are_bounded.Goals as goal

pub returns : goal.returns
returns c = bounded
