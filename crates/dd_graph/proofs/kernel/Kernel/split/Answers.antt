use Rattle.std.proofs.Common.{◌≡◌, sym, subst, List, ℕ}
use Rattle.dd_set.specs.Words.{has}
use Rattle.dd_graph.specs.Goes.{AreChildren}
use Rattle.dd_graph.specs.View.{kernel_view, rules_at}
use Rattle.dd_graph.proofs.Leading.{rules-kept}
use Rattle.dd_graph.proofs.Stepping.{at-label, split-goes, split-less}
use Rattle.dd_graph.proofs.kernel.Kernel.split.Goals as goal

pub note_split-requires-clause-children : goal.note_split-requires-clause-children
note_split-requires-clause-children c =
    at-label c.children.new.self c.args.id c.args.label.now.words (λ l. AreChildren (rules_at (kernel_view c.children.new.self)) c.children.new.self.table.list (has l) c.args.step c.in_ok-to.to)
    (c.in_ok-to.ensures.puts.goes.keeps.labels c.args.id c.args.label.now.words c.requires.fresh.label)
    (subst (λ r. AreChildren r c.children.new.self.table.list (has c.args.label.now.words) c.args.step c.in_ok-to.to) (sym (rules-kept c.args.self.now c.children.new.self c.in_ok-to.ensures.puts.goes.keeps)) c.in_ok-to.ensures.children)

pub returns-clause-goes : goal.returns-clause-goes
returns-clause-goes c = split-goes c.args.self.now c.children.new.self c.note_split.new.self c.args.id c.args.label.now.words c.requires.fresh c.in_ok-to.ensures.puts c.args.step c.in_ok-to.to c.note_split.ensures

pub returns-clause-less : goal.returns-clause-less
returns-clause-less c = split-less c.args.self.now c.children.new.self c.note_split.new.self c.args.id c.args.label.now.words c.requires.fresh c.in_ok-to.ensures.puts c.args.step c.in_ok-to.to c.note_split.ensures
