use Rattle.std.proofs.lemmas.Bool.Decides.{same_from_decides}
use Rattle.dd_concept.proofs.SameIs.{is_same-decides}
use Rattle.dd_check.proofs.parts.is_one.Goals as goal

pub returns : goal.returns
returns c = same_from_decides _ _ c.same.ensures (is_same-decides _ _)
