use Rattle.dd_cert.specs.Steps.{past_line}
use Rattle.dd_cert.proofs.Loops.{walk-ends}
use Rattle.dd_cert.proofs.line_limits.pass_lines.Goals as goal

pub returns : goal.returns
returns c = walk-ends past_line c.args.place c.args.lines.now c.loop-line.place c.loop-line.line-index c.loop-line.invariant c.loop-line-test.false
