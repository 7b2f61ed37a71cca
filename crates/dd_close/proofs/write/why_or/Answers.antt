use Rattle.dd_graph.specs.View.{view_of}
use Rattle.dd_close.proofs.Reasons.{is-or}
use Rattle.dd_close.proofs.write.why_or.Goals as goal

pub returns : goal.returns
returns c = is-or c.args._p.now c.args._peer c.args.view.now c.args._version.now (view_of c.args.g.now) c.known.ensures.graph c.known.ensures.distinct c.known.ensures.closed c.requires.fits c.requires.version c.args.book.now.table.list c.args._line c.args.label.now.words
    c.args.ns.now c.args.at c.args.left c.args.right c.in-Some.place c.in_ok-left.left c.in_ok-right.right c.requires.numbers c.in-Some.ensures.some c.in_ok-left.ensures c.in_ok-right.ensures c.requires.by
