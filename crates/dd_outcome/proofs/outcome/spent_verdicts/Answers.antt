use Rattle.std.proofs.Common.{◌∙◌, ◌≡◌, ap, sym}
use Rattle.std.specs.Option.{option_map}
use Rattle.std.proofs.lemmas.Option.{same_Some}
use Rattle.dd_task.specs.declared.job.Job.{Job}
use Rattle.dd_board.specs.View.{SessionView}
use Rattle.dd_outcome.proofs.Spent.{spent-verdicts}
use Rattle.dd_outcome.proofs.outcome.spent_verdicts.Goals as goal

pub returns : goal.returns
returns c s at =
    let same : s.job ≡ c.job.result.now = same_Some s.job c.job.result.now (sym (ap (option_map (λ (v : SessionView). v.job)) at) ∙ c.job.ensures) in
    spent-verdicts s (c.requires.from_nothing s at) (c.sessions-legal.ensures.legal c.args.session s at) (c.requires.spent s at) c.job.result.now.budget.verdicts
    (ap (λ (j : Job). j.budget.verdicts) (sym same))
