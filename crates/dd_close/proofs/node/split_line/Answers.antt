use Rattle.dd_graph.specs.View.{rules_at, view_of}
use Rattle.dd_set.specs.Words.{has}
use Rattle.dd_close.proofs.Nodes.{calls-step}
use Rattle.dd_close.proofs.node.split_line.Goals as goal

pub choice_line-requires-clause-step : goal.choice_line-requires-clause-step
choice_line-requires-clause-step c = (calls-step (rules_at (view_of c.args.g.now)) (has c.args.set.now.words) c.args.step c.requires.calls).0

pub choice_line-requires-clause-posed : goal.choice_line-requires-clause-posed
choice_line-requires-clause-posed c = (calls-step (rules_at (view_of c.args.g.now)) (has c.args.set.now.words) c.args.step c.requires.calls).1
