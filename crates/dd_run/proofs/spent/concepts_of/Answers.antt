use Rattle.dd_run.proofs.Taking.{item-pushed}
use Rattle.dd_run.proofs.spent.concepts_of.Goals as goal

pub loop-n-preserved : goal.loop-n-preserved
loop-n-preserved c = item-pushed c.args.compiled.now.concepts c.loop-n.concepts c.push.new.self c.loop-n.n c.in_ok-concept.field-0 c.in_ok-push.ensures.ok c.in_ok-concept.ensures c.loop-n.invariant
