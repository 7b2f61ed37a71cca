use Rattle.dd_run.proofs.Taking.{label-pushed}
use Rattle.dd_run.proofs.spent.labels_of.Goals as goal

pub loop-id-preserved : goal.loop-id-preserved
loop-id-preserved c = label-pushed c.args.table.now.width c.args.table.now.list c.loop-id.id c.loop-id.labels c.push.new.self c.in_ok-to_bits.field-0 c.label.result
    c.in_ok-push.ensures.ok c.in_ok-to_bits.ensures c.label.ensures.width c.label.ensures.words c.loop-id.invariant
