use Rattle.std.proofs.Common.{◌≡◌, ap, Some, slice_get}
use Rattle.dd_set.specs.Words.{Label, has}
use Rattle.dd_graph.specs.Right.{IsSuccessorAt}
use Rattle.dd_graph.specs.View.{kernel_view, rules_at}
use Rattle.dd_graph.proofs.Leading.{follows-found, reached-some}
use Rattle.dd_graph.proofs.Lists.{ok_map}
use Rattle.dd_graph.proofs.kernel.Kernel.successor.Goals as goal

pub put-requires-clause-reached : goal.put-requires-clause-reached
put-requires-clause-reached c =
    reached-some c.args.self.now (has c.args.label.now.words) (has c.in-Ok.next.words) c.args.n c.requires.reached c.requires.clear c.requires.restricts (c.in-Ok.ensures.numbers c.args.self.now.props)

pub returns-clause-follows : goal.returns-clause-follows
returns-clause-follows c =
    ok_map c.put.result (λ t. slice_get c.put.new.self.table.list t ≡ Some c.in-Ok.next.words)
    (λ t. IsSuccessorAt (rules_at (kernel_view c.args.self.now)) c.put.new.self.table.list (has c.args.label.now.words) c.args.n t) c.put.ensures.found
    (λ t at. follows-found (rules_at (kernel_view c.args.self.now)) c.put.new.self.table.list (has c.args.label.now.words) c.args.n t c.in-Ok.next.words at c.requires.restricts (c.in-Ok.ensures.numbers c.args.self.now.props))
