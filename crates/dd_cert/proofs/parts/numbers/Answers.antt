use Rattle.std.proofs.Common.{ap, map, ◌∙◌}
use Rattle.serde_json.specs.View.{view}
use Rattle.serde_json.proofs.Views.{view-Array}
use Rattle.dd_cert.specs.Printed.{whole_number}
use Rattle.dd_cert.proofs.Listing.{listed-all, number-listed}
use Rattle.dd_cert.proofs.parts.numbers.Goals as goal

pub loop-n-init : goal.loop-n-init
loop-n-init c = ap (map view) c.new-values.ensures.items

pub loop-n-preserved : goal.loop-n-preserved
loop-n-preserved c =
    ap (map view) c.in_ok-push.ensures.items
    ∙ number-listed whole_number c.args.list.now c.loop-n.n-index c.loop-n.values.items c.from.result c.loop-n-test.true c.from.ensures c.loop-n.invariant

pub returns : goal.returns
returns c = view-Array c.loop-n.values ∙ listed-all whole_number c.args.list.now c.loop-n.n-index c.loop-n.values.items c.loop-n.invariant c.loop-n-test.false
