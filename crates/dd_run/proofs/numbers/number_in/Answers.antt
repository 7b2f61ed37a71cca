use Rattle.std.proofs.Common.{◌∙◌, sym}
use Rattle.dd_run.proofs.Taking.{number-low}
use Rattle.dd_run.proofs.numbers.number_in.Goals as goal

pub returns-clause-below : goal.returns-clause-below
returns-clause-below c = number-low c.args.compiled.now.concepts c.args.c.now c.in-Some.n (sym c.in-Some.is ∙ c.number.ensures)
