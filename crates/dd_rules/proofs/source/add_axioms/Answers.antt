use Rattle.dd_rules.proofs.Pairing.{axioms-next}
use Rattle.dd_rules.proofs.source.add_axioms.Goals as goal

pub loop-a-preserved : goal.loop-a-preserved
loop-a-preserved c =
    axioms-next c.loop-a.rows.keys c.add_axiom.new.rows.keys c.args.axioms.now c.loop-a.a-index c.a-item.result c.in_ok-row.row c.loop-a.list.items c.push.new.self.items c.loop-a.invariant c.loop-a-test.true
    c.a-item.is c.in_ok-row.ensures.grows c.in_ok-row.ensures.rows c.in_ok-row.ensures.axiom c.in_ok-push.ensures.items
