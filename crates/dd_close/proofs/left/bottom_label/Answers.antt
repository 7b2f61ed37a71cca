use Rattle.dd_graph.specs.View.{view_of}
use Rattle.dd_set.specs.Words.{has}
use Rattle.dd_close.proofs.Lefts.{bottom-label}
use Rattle.dd_close.proofs.left.bottom_label.Goals as goal

pub returns-clause-label : goal.returns-clause-label
returns-clause-label c = bottom-label (view_of c.args.g.now) c.known.ensures.distinct c.known.ensures.closed.parts (has c.in_ok-label.label.words) (has c.add_concept.new.set.words)
    c.requires.there c.in_ok-label.ensures.empty c.add_concept.ensures.with
