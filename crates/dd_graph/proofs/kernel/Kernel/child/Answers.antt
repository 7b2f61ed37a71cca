use Rattle.std.proofs.Common.{◌≡◌, ap, subst, Some, slice_get}
use Rattle.dd_rules.specs.Least.{IsLeastSaturated}
use Rattle.dd_set.specs.Words.{Label, has}
use Rattle.dd_graph.specs.Right.{IsLeastAt, adding}
use Rattle.dd_graph.specs.View.{kernel_view, rules_at}
use Rattle.dd_graph.proofs.Adding.{addition-within}
use Rattle.dd_graph.proofs.Leading.{least-found, reached-step}
use Rattle.dd_graph.proofs.Lists.{ok_map}
use Rattle.dd_graph.proofs.kernel.Kernel.child.Goals as goal
use Rattle.dd_graph.proofs.kernel.Kernel.child.Goals.{After-saturate_added}

least : (c : After-saturate_added) → IsLeastSaturated (rules_at (kernel_view c.args.self.now)) (adding c.args.c (has c.args.label.now.words)) (has c.saturate_added.new.label.words)
least c =
    subst (λ (l : Label). IsLeastSaturated (rules_at (kernel_view c.args.self.now)) (adding c.args.c (has l.words)) (has c.saturate_added.new.label.words)) c.in-Ok.ensures c.saturate_added.ensures.least

pub saturate_added-requires-clause-within : goal.saturate_added-requires-clause-within
saturate_added-requires-clause-within c =
    addition-within c.args.self.now.compiled c.args.self.now.props (has c.args.label.now.words) c.args.step c.args.k c.args.c c.known.ensures.distinct c.known.ensures.closed c.args.self.now.fit c.requires.calls c.requires.addition

pub put-requires-clause-reached : goal.put-requires-clause-reached
put-requires-clause-reached c =
    reached-step c.args.self.now (has c.args.label.now.words) (has c.saturate_added.new.label.words) c.args.step c.args.k c.args.c c.requires.reached c.requires.clear c.requires.calls c.requires.addition
    (least (goal.at.put-requires-clause-reached c).After-saturate_added)

pub returns-clause-least : goal.returns-clause-least
returns-clause-least c =
    ok_map c.put.result (λ t. slice_get c.put.new.self.table.list t ≡ Some c.saturate_added.new.label.words)
    (λ t. IsLeastAt (rules_at (kernel_view c.args.self.now)) c.put.new.self.table.list (adding c.args.c (has c.args.label.now.words)) t) c.put.ensures.found
    (λ t at. least-found (rules_at (kernel_view c.args.self.now)) c.put.new.self.table.list (adding c.args.c (has c.args.label.now.words)) t c.saturate_added.new.label.words at
    (least (goal.at.returns-clause-least c).After-saturate_added))
