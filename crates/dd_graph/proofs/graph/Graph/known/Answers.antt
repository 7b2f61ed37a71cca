use Rattle.std.proofs.Common.{subst}
use Rattle.dd_table.specs.Labels.{AllPacked}
use Rattle.dd_graph.proofs.Known.{fit-closed}
use Rattle.dd_graph.proofs.graph.Graph.known.Goals as goal

pub returns-clause-graph : goal.returns-clause-graph
returns-clause-graph c = record {
  fit = c.args.self.now.kernel.fit;
  packed = subst (λ w. AllPacked w c.args.self.now.kernel.table.list) c.args.self.now.kernel.wide c.len-labels.ensures.packed;
  distinct = c.len-labels.ensures.distinct;
  right = c.args.self.now.kernel.right;
}

pub returns-clause-closed : goal.returns-clause-closed
returns-clause-closed c = fit-closed c.args.self.now.kernel.compiled c.args.self.now.kernel.props c.args.self.now.kernel.fit c.known.ensures.closed
