use Rattle.dd_graph.specs.View.{view_of}
use Rattle.dd_close.proofs.Reasons.{is-successor}
use Rattle.dd_close.proofs.write.why_successor.Goals as goal

pub returns : goal.returns
returns c = is-successor c.args._p.now c.args._peer c.args.view.now c.args._version.now (view_of c.args.g.now) c.known.ensures.graph c.known.ensures.distinct c.known.ensures.closed c.requires.fits c.requires.version c.args.book.now.table.list c.args._line c.args.label.now.words
    c.args.ns.now c.args.at c.args.cite c.in-Some.place c.in_ok-cite.cite c.requires.numbers c.in-Some.ensures.some c.in_ok-cite.ensures c.requires.by
