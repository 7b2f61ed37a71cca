use Rattle.std.proofs.Common.{◌∙◌}
use Rattle.dd_concept.proofs.SameIs.{is_same-sym}
use Rattle.dd_check.proofs.reasons.is_no.Goals as goal

pub returns : goal.returns
returns c = c.is_not_name.ensures ∙ is_same-sym _ _
