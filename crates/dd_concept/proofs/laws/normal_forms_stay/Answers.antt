use Rattle.dd_concept.proofs.NormalForms.{nnf_of-nnf_of, nnf_not_of-nnf_of, nnf_of-nnf_not_of, nnf_not_of-nnf_not_of}
use Rattle.dd_concept.proofs.laws.normal_forms_stay.Goals as goal

pub returns : goal.returns
returns c = record { same = nnf_of-nnf_of; complement = nnf_not_of-nnf_of; same_not = nnf_of-nnf_not_of; complement_not = nnf_not_of-nnf_not_of }
