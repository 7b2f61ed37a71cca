use Rattle.std.proofs.Common.{◌∙◌}
use Rattle.dd_graph.specs.View.{view_of}
use Rattle.dd_close.proofs.Reasons.{bridge-low, is-bridge}
use Rattle.dd_close.proofs.write.why_bridge.Goals as goal

pub prop_at-t-requires : goal.prop_at-t-requires
prop_at-t-requires c = bridge-low c.args._p.now c.args._peer c.args.view.now c.args._version.now (view_of c.args.g.now) c.known.ensures.graph c.known.ensures.distinct c.known.ensures.closed c.requires.fits c.requires.version c.args.book.now.table.list c.args._line c.args.label.now.words
    c.args.prop c.args.cites.now c.requires.by

pub returns : goal.returns
returns c = is-bridge c.args._p.now c.args._peer c.args.view.now c.args._version.now (view_of c.args.g.now) c.known.ensures.graph c.known.ensures.distinct c.known.ensures.closed c.requires.fits c.requires.version c.args.book.now.table.list c.args._line c.args.label.now.words
    c.args.prop c.args.cites.now c.prop_at-t.result.now c.in_ok-into_set.into_set c.in_ok-each.each c.prop_at-t.ensures (c.in_ok-into_set.ensures ∙ c.as_slice.ensures) c.in_ok-each.ensures c.requires.by
