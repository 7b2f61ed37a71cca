use Rattle.dd_close.proofs.Sounds.{not-both}
use Rattle.dd_close.proofs.laws.not_both.Goals as goal

pub returns : goal.returns
returns c = not-both
