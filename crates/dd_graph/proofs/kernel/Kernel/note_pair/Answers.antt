use Rattle.std.proofs.Common.{◌≡◌, ◌++◌, ◌∷◌, [], ◌+◌, sym, subst, ℕ, List, slice_set}
use Rattle.dd_rules.specs.Compiled.{rules_in}
use Rattle.dd_graph.specs.declared.node.Node.TheVariants as node
use Rattle.dd_graph.specs.Right.{AreEntries}
use Rattle.dd_graph.proofs.Lists.{on_result}
use Rattle.dd_graph.proofs.Noting.{pair-right}
use Rattle.dd_graph.proofs.kernel.Kernel.note_pair.Goals as goal

pub invariant_of-self-clause-right : goal.invariant_of-self-clause-right
invariant_of-self-clause-right c =
    let done = c.requires.done in
    let r = rules_in c.args.self.now.compiled c.args.self.now.props in
    on_result c.push_pair.result _ _ (AreEntries r c.args.self.now.table.list c.push_pair.new.entries.items c.args.self.now.closed) c.push_pair.ensures.ok c.push_pair.ensures.err
    (λ said. subst (λ es. AreEntries r c.args.self.now.table.list es c.args.self.now.closed) (sym (said done.1 done.0 done.2 done.4))
    (pair-right r c.args.self.now.table.list c.args.self.now.entries.items c.args.self.now.closed c.args.id done.0 c.args.self.now.right done.2 done.3 done.1 c.args.n c.args.at done.4 done.5 (λ l at. (c.requires.follows l at, c.requires.next done.0 done.2 l at))))
    (λ same. subst (λ es. AreEntries r c.args.self.now.table.list es c.args.self.now.closed) (sym same) c.args.self.now.right)
