use Rattle.std.proofs.Common.{◌<◌, sym, subst, All, length}
use Rattle.dd_graph.specs.View.{rules_at, view_of}
use Rattle.dd_set.specs.Words.{has}
use Rattle.dd_close.proofs.Choices.{cites-there}
use Rattle.dd_close.proofs.choose.choice_line.Goals as goal

pub line_within-requires-clause-there : goal.line_within-requires-clause-there
line_within-requires-clause-there c = subst (All (λ m. m < length c.args.book.now.table.list)) (sym c.as_slice.ensures)
    (cites-there (rules_at (view_of c.args.g.now)) c.args.book.now.table.list (has c.args.set.now.words) c.args.step c.args.cites c.requires.many c.requires.cited)
