use Rattle.dd_work.proofs.Fitting.{run-goal, run-view}
use Rattle.dd_work.proofs.running.run.Goals as goal

pub verdict_of-requires-clause-goal : goal.verdict_of-requires-clause-goal
verdict_of-requires-clause-goal c =
    run-goal c.args.ticket.now c.requires c.goals_of_keys_are_fit.ensures c.goal.ensures.asks c.view.ensures.fits
    c.job.result.now c.goal.result.now c.job.ensures c.goal.ensures.value

pub verdict_of-requires-clause-view : goal.verdict_of-requires-clause-view
verdict_of-requires-clause-view c =
    run-view c.args.ticket.now c.requires c.goal.ensures.asks c.view.ensures.fits
    c.job.result.now c.goal.result.now c.view.result.now c.job.ensures c.goal.ensures.value c.view.ensures.value
