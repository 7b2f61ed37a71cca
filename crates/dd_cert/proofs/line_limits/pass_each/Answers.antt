use Rattle.dd_cert.specs.Steps.{past_number}
use Rattle.dd_cert.proofs.Loops.{walk-ends}
use Rattle.dd_cert.proofs.line_limits.pass_each.Goals as goal

pub returns : goal.returns
returns c = walk-ends past_number c.args.place c.args.numbers.now c.loop-n.place c.loop-n.n-index c.loop-n.invariant c.loop-n-test.false
