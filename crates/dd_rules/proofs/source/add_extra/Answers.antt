use Rattle.dd_rules.proofs.Pairing.{extra-next}
use Rattle.dd_rules.proofs.source.add_extra.Goals as goal

pub loop-c-preserved : goal.loop-c-preserved
loop-c-preserved c =
    extra-next c.args.rows.now.keys c.loop-c.rows.keys c.add.new.rows.keys c.args.extra.now c.loop-c.c-index c.c-item.result c.in_ok-row.row c.loop-c.list.items c.push.new.self.items c.loop-c.invariant c.loop-c-test.true
    c.c-item.is c.in_ok-row.ensures.grows c.in_ok-row.ensures.rows c.in_ok-row.ensures.found c.in_ok-push.ensures.items
