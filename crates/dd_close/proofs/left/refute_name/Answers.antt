use Rattle.dd_graph.specs.View.{view_of}
use Rattle.dd_graph.proofs.Lists.{ok_map}
use Rattle.dd_set.specs.Words.{has}
use Rattle.dd_graph.specs.Right.{adding}
use Rattle.dd_close.specs.Drafts.{Makes}
use Rattle.dd_close.proofs.Lefts.{clash-everywhere-name, left-clash}
use Rattle.dd_close.proofs.left.refute_name.Goals as goal

pub clash_line-requires-clause-there : goal.clash_line-requires-clause-there
clash_line-requires-clause-there c = clash-everywhere-name (view_of c.args.g.now) c.known.ensures.distinct c.known.ensures.closed.parts (has c.args._set.now.words) c.args._n c.args.name
    c.requires.number c.requires.name

pub returns : goal.returns
returns c = ok_map c.clash_line.result _ (Makes (view_of c.args.g.now) c.args.book.now c.clash_line.new.book (adding c.args._n (has c.args._set.now.words))) c.clash_line.ensures
    (λ m h. h (adding c.args._n (has c.args._set.now.words)) (left-clash (view_of c.args.g.now) c.known.ensures.distinct c.known.ensures.closed.parts (has c.args._set.now.words) c.args._n c.args.name
    c.requires.number c.requires.name))
