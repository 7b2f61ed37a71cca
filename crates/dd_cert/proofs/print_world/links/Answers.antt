use Rattle.std.proofs.Common.{ap, get_or, map, ◌∙◌}
use Rattle.serde_json.specs.View.{view}
use Rattle.serde_json.proofs.Views.{view-Array}
use Rattle.dd_cert.specs.Printed.{link_data}
use Rattle.dd_cert.proofs.Listing.{listed-all, listed-next, same-item}
use Rattle.dd_cert.proofs.print_world.links.Goals as goal

pub loop-link-init : goal.loop-link-init
loop-link-init c = ap (map view) c.new-values.ensures.items

pub loop-link-preserved : goal.loop-link-preserved
loop-link-preserved c =
    let i = c.loop-link.link-index in
    let x = get_or c.args.links.now i (0, 0, 0, 0) in
    listed-next link_data c.args.links.now i c.loop-link.values.items c.loop-link.invariant x c.in_ok-print_link.field-0 c.push.new.self.items
    c.loop-link-test.true (same-item c.args.links.now i (0, 0, 0, 0) c.loop-link-test.true) c.in_ok-print_link.ensures c.in_ok-push.ensures.items

pub returns : goal.returns
returns c = view-Array c.loop-link.values ∙ listed-all link_data c.args.links.now c.loop-link.link-index c.loop-link.values.items c.loop-link.invariant c.loop-link-test.false
