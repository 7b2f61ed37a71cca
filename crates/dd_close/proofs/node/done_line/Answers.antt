use Rattle.std.proofs.Common.{refl, slice_index_or}
use Rattle.dd_graph.specs.View.{view_of}
use Rattle.dd_set.specs.Words.{has}
use Rattle.dd_close.proofs.Nodes.{pair-line}
use Rattle.dd_close.proofs.node.done_line.Goals as goal

pub successor_line-requires-clause-line : goal.successor_line-requires-clause-line
successor_line-requires-clause-line c role part shape_is =
    pair-line (view_of c.args.g.now) c.args.book.now c.args.lines.now (has c.args.set.now.words) c.args.bound c.closed_pair-n.result.0 c.closed_pair-n.result.1
    (slice_index_or c.args.lines.now c.closed_pair-n.result.1 0) role part (c.requires.pairs c.closed_pair-n.ensures.place c.closed_pair-n.result.0 c.closed_pair-n.result.1 c.closed_pair-n.ensures.there)
    shape_is c.requires.lines c.closed_pair-n.ensures.closed refl
