use Rattle.std.proofs.Common.{[], subst}
use Rattle.dd_task.specs.declared.job.Key.TheVariants.{Root}
use Rattle.dd_task.specs.Goals.{goal_for}
use Rattle.dd_task.specs.Verdicts.{IsRight}
use Rattle.dd_run.proofs.Lonely.{derives, refutes}
use Rattle.dd_run.proofs.alone.answer_by.Goals as goal

pub returns-in-Closed : goal.returns-in-Closed
returns-in-Closed c = derives c.args._job.now c.requires.alone c.in-Closed.lines (subst (IsRight c.args._job.now (goal_for c.args._job.now Root) []) c.in-Closed.is c.requires.right)

pub returns-in_ok-world_of-in-Open : goal.returns-in_ok-world_of-in-Open
returns-in_ok-world_of-in-Open c = refutes c.args._job.now c.requires.alone c.in-Open.model c.in-Open.x
    (subst (IsRight c.args._job.now (goal_for c.args._job.now Root) []) c.in-Open.is c.requires.right)
    c.in_ok-world_of-in-Open.field-0 c.in_ok-world_of-in-Open.ensures.0 c.in_ok-world_of-in-Open.ensures.1
