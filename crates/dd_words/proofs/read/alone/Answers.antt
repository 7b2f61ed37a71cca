use Rattle.std.proofs.Common.{subst, sym}
use Rattle.dd_words.specs.Suits.{SuitsSession}
use Rattle.dd_words.proofs.Laws.{alone-suits}
use Rattle.dd_words.proofs.read.alone.Goals as goal

pub session-requires : goal.session-requires
session-requires c = subst SuitsSession (sym c.in-Ok.ensures.app) alone-suits
