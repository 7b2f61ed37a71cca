use Rattle.std.proofs.Common.{◌≡◌, ◌∙◌, sym}
use Rattle.dd_set.specs.Words.{has}
use Rattle.dd_graph.specs.View.{kernel_view, rules_at}
use Rattle.dd_graph.proofs.Leading.{follows-found}
use Rattle.dd_graph.proofs.kernel.Kernel.refuted.Goals as goal

pub returns-then-is_under-clause-follows : goal.returns-then-is_under-clause-follows
returns-then-is_under-clause-follows c =
    follows-found (rules_at (kernel_view c.args.self.now)) c.args.self.now.table.list (has c.args.label.now.words) c.args.n c.in-Some.at c.in_ok-next.next.words c.in-Some.ensures.found
    (sym c.restricts.ensures.restricts ∙ c.if-not-restricts.false) (c.in_ok-next.ensures.numbers c.args.self.now.props)
