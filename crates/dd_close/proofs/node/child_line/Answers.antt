use Rattle.std.proofs.Common.{◌∙◌, ◌==◌, ◌||◌, ap}
use Rattle.dd_graph.specs.Right.{adding}
use Rattle.dd_graph.specs.View.{rules_at, view_of}
use Rattle.dd_set.specs.Words.{has}
use Rattle.dd_close.proofs.Nodes.{least-same}
use Rattle.dd_close.proofs.node.child_line.Goals as goal

pub larger_line-requires-clause-least : goal.larger_line-requires-clause-least
larger_line-requires-clause-least c = least-same (rules_at (view_of c.args.g.now)) (view_of c.args.g.now).labels (adding c.args.n (has c.args.set.now.words)) (has c.insert.new.self.words) c.args.t
    (λ k. c.insert.ensures.with k ∙ ap (λ (b : _). (k == c.args.n) || has b.words k) c.in_ok-base.ensures) c.requires.least
