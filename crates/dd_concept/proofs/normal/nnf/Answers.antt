use Rattle.dd_concept.specs.Normal.{IsNormal, IsSmallFor, nnf_of}
use Rattle.dd_concept.proofs.Bounds.{nnf_of-IsSmallFor}
use Rattle.dd_concept.proofs.NormalForms.{nnf_of-IsNormal}
use Rattle.dd_concept.proofs.Results.{ok_at}
use Rattle.dd_concept.proofs.normal.nnf.Goals as goal

pub returns-clause-normal : goal.returns-clause-normal
returns-clause-normal c = ok_at IsNormal c.positive.result (nnf_of c.args.c.now) c.positive.ensures (nnf_of-IsNormal c.args.c.now)

pub returns-clause-small : goal.returns-clause-small
returns-clause-small c = ok_at (IsSmallFor c.args.c.now) c.positive.result (nnf_of c.args.c.now) c.positive.ensures (nnf_of-IsSmallFor c.args.c.now)
