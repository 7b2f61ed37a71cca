use Rattle.std.proofs.Common.{rules}
use Rattle.dd_wire.specs.Steps.{budgets_of}
use Rattle.dd_wire.proofs.form.budgets.Goals as goal

pub returns-in_err-wants_members : goal.returns-in_err-wants_members
unfolding budgets_of
returns-in_err-wants_members c = search rules

pub returns : goal.returns
unfolding budgets_of
returns c = search rules
