use Rattle.dd_run.proofs.KeyGoals.{key-fit}
use Rattle.dd_run.proofs.laws.goals_of_keys_are_fit.Goals as goal

pub returns : goal.returns
returns c = key-fit
