use Rattle.dd_graph.proofs.kernel.Kernel.saturate_added.Goals as goal

pub returns-clause-least : goal.returns-clause-least
returns-clause-least c = c.saturate_added.ensures.least c.args.self.now.props
