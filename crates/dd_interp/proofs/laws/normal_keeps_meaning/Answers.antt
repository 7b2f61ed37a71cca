use Rattle.dd_interp.proofs.NormalForms.{meaning-nnf_of, meaning-nnf_not_of}
use Rattle.dd_interp.proofs.laws.normal_keeps_meaning.Goals as goal

pub returns : goal.returns
returns c = record { same = meaning-nnf_of; complement = meaning-nnf_not_of }
