use Rattle.std.proofs.Common.{subst, sym}
use Rattle.dd_outcome.specs.Answers.{IsYes}
use Rattle.dd_outcome.proofs.Yes.{yes}
use Rattle.dd_outcome.proofs.outcome.derivation.Goals as goal

pub returns-in-Ok : goal.returns-in-Ok
returns-in-Ok c s at = subst (IsYes s.job) (sym c.from_vec.ensures) (yes s c.in-Ok.lines.items (c.requires.from_nothing s at) (c.in-Ok.ensures s at))
