use Rattle.std.proofs.Common.{◌∙◌}
use Rattle.std.proofs.lemmas.List.{take_all}
use Rattle.dd_cert.proofs.build.links.Goals as goal

pub returns : goal.returns
returns c = c.loop-link.invariant.built ∙ take_all c.loop-link.link-index c.args.links.now c.loop-link-test.false
