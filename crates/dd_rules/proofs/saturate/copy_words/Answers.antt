use Rattle.std.proofs.Common.{arith}
use Rattle.dd_rules.proofs.Pending.{copied-has}
use Rattle.dd_rules.proofs.saturate.copy_words.Goals as goal

pub returns : goal.returns
returns c = copied-has c.args.words.now c.args.handled.now c.loop-i.handled c.loop-i.i (omega arith) c.requires.empty c.loop-i.invariant
