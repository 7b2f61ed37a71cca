use Rattle.std.proofs.Common.{arith}
use Rattle.dd_set.proofs.Joining.{joined-start, joined-more, joined-has, joined-packed}
use Rattle.dd_set.proofs.words.put_all.Goals as goal

pub loop-i-init : goal.loop-i-init
loop-i-init c = joined-start c.args.a.now c.args.b.now

pub loop-i-preserved : goal.loop-i-preserved
loop-i-preserved c = joined-more c.args.a.now c.args.b.now c.loop-i.a c.loop-i.i (omega arith) c.loop-i.invariant

pub returns-clause-union : goal.returns-clause-union
returns-clause-union c = joined-has c.args.a.now c.args.b.now c.loop-i.a c.loop-i.i c.requires (omega arith) c.loop-i.invariant

pub returns-clause-packed : goal.returns-clause-packed
returns-clause-packed c = joined-packed c.args.a.now c.args.b.now c.loop-i.a c.loop-i.i c.requires (omega arith) c.loop-i.invariant
