use Rattle.std.proofs.Common.{rules}
use Rattle.dd_concept.proofs.equal.copy_axiom.Goals as goal

pub returns : goal.returns
returns c = search rules
