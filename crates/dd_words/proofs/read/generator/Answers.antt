use Rattle.std.proofs.Common.{subst, sym}
use Rattle.dd_words.specs.Suits.{SuitsGenerator}
use Rattle.dd_words.proofs.Laws.{generator-suits}
use Rattle.dd_words.proofs.read.generator.Goals as goal

pub generated-requires : goal.generated-requires
generated-requires c = subst SuitsGenerator (sym c.in-Ok.ensures.app) (generator-suits c.args.name.now)
