use Rattle.std.proofs.Common.{◌∙◌, All, subst, sym}
use Rattle.dd_concept.specs.Normal.{IsNormal}
use Rattle.dd_task.proofs.NormalExtra.{extra-normal}
use Rattle.dd_task.proofs.extra.extra_of.Goals as goal

pub returns-clause-normal : goal.returns-clause-normal
returns-clause-normal c = subst (All IsNormal) (sym (c.into_vec.ensures ∙ c.in_ok-extra.ensures)) (extra-normal c.args.job.now c.args.peer)
