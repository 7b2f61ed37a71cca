use Rattle.std.proofs.Common.{◌∙◌}
use Rattle.dd_concept.proofs.SameIs.{is_same-sym}
use Rattle.dd_check.proofs.labels.is_written.Goals as goal

pub returns-clause-second : goal.returns-clause-second
returns-clause-second c = c.is_written_once.ensures ∙ is_same-sym _ _
