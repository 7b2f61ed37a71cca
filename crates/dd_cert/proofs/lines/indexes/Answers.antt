use Rattle.std.proofs.Common.{◌∙◌}
use Rattle.std.proofs.lemmas.List.{take_all}
use Rattle.dd_cert.proofs.lines.indexes.Goals as goal

pub returns : goal.returns
returns c = c.loop-n.invariant.built ∙ take_all c.loop-n.n-index c.args.numbers.now c.loop-n-test.false
