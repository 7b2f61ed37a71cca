use Rattle.dd_concept.specs.Normal.{IsNormal, IsSmallFor, nnf_not_of}
use Rattle.dd_concept.proofs.Bounds.{nnf_not_of-IsSmallFor}
use Rattle.dd_concept.proofs.NormalForms.{nnf_not_of-IsNormal}
use Rattle.dd_concept.proofs.Results.{ok_at}
use Rattle.dd_concept.proofs.normal.nnf_not.Goals as goal

pub returns-clause-normal : goal.returns-clause-normal
returns-clause-normal c = ok_at IsNormal c.negative.result (nnf_not_of c.args.c.now) c.negative.ensures (nnf_not_of-IsNormal c.args.c.now)

pub returns-clause-small : goal.returns-clause-small
returns-clause-small c = ok_at (IsSmallFor c.args.c.now) c.negative.result (nnf_not_of c.args.c.now) c.negative.ensures (nnf_not_of-IsSmallFor c.args.c.now)
