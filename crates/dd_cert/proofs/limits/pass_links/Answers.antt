use Rattle.dd_cert.specs.Steps.{past_link}
use Rattle.dd_cert.proofs.Loops.{walk-ends}
use Rattle.dd_cert.proofs.limits.pass_links.Goals as goal

pub returns : goal.returns
returns c = walk-ends past_link c.args.place c.args.links.now c.loop-link.place c.loop-link.link-index c.loop-link.invariant c.loop-link-test.false
