use Rattle.std.proofs.Common.{[], sym, subst}
use Rattle.dd_run.specs.Fit.{HasFewConcepts, IsFitView}
use Rattle.dd_run.proofs.Lonely.{alone-fits}
use Rattle.dd_run.proofs.Runs.{root-fit}
use Rattle.dd_run.proofs.alone.answer.Goals as goal

pub verdict_of-requires-clause-goal : goal.verdict_of-requires-clause-goal
verdict_of-requires-clause-goal c = root-fit c.args.job.now c.in_ok-goal.goal (subst (HasFewConcepts c.args.job.now) (sym c.requires.alone.asked) c.requires.few) c.in_ok-goal.ensures

pub verdict_of-requires-clause-view : goal.verdict_of-requires-clause-view
verdict_of-requires-clause-view c = subst (λ g. IsFitView c.args.job.now.pinned g.peer []) (sym c.in_ok-goal.ensures) (alone-fits c.args.job.now c.requires.alone)
