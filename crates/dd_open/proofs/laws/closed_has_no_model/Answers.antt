use Rattle.dd_graph.specs.View.{view_of}
use Rattle.dd_open.proofs.Ranks.{closed_has_no_element}
use Rattle.dd_open.proofs.laws.closed_has_no_model.Goals as goal

pub returns : goal.returns
returns c i model = closed_has_no_element (view_of c.args.g.now) c.known.ensures.graph c.known.ensures.distinct c.known.ensures.closed i model
