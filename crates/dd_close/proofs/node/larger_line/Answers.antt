use Rattle.std.proofs.Common.{sym, slice_index_or}
use Rattle.std.proofs.lemmas.Option.{get_or_from_slice_get}
use Rattle.dd_graph.specs.View.{view_of}
use Rattle.dd_set.specs.Words.{has}
use Rattle.dd_close.proofs.Nodes.{least-reaches}
use Rattle.dd_close.proofs.node.larger_line.Goals as goal

pub descend-requires-clause-reaches : goal.descend-requires-clause-reaches
descend-requires-clause-reaches c = least-reaches (view_of c.args.g.now) c.args.book.now c.args.lines.now (has c.args.set.now.words) c.args.t (slice_index_or c.args.lines.now c.args.t 0)
    c.requires.least c.requires.line (sym (get_or_from_slice_get c.args.lines.now c.args.t c.requires.line.line 0 c.requires.line.given))
