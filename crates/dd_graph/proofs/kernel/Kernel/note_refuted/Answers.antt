use Rattle.std.proofs.Common.{◌≡◌, ◌∙◌, ◌<◌, ◌+◌, refl, sym, ap, subst, arith, ℕ, List, length, true, Some, slice_get, slice_set}
use Rattle.dd_graph.specs.declared.node.Node.TheVariants as node
use Rattle.dd_rules.specs.Compiled.{rules_in}
use Rattle.dd_graph.specs.Right.{AreEntries}
use Rattle.dd_graph.proofs.Closing.{closed-fewer, unsettled}
use Rattle.dd_graph.proofs.Noting.{refuted-right}
use Rattle.dd_graph.proofs.kernel.Kernel.note_refuted.Goals as goal

pub overflow_add-self : goal.overflow_add-self
overflow_add-self c =
    let free = c.requires.free in
    let fewer = closed-fewer (rules_in c.args.self.now.compiled c.args.self.now.props) c.args.self.now.table.list c.args.self.now.entries.items c.args.self.now.closed c.args.id free.0 c.args.self.now.right free.1 (unsettled free.0 free.2).0 in
    omega (arith, fewer, c.len-labels.ensures.len)

pub invariant_of-self-clause-right : goal.invariant_of-self-clause-right
invariant_of-self-clause-right c =
    let free = c.requires.free in
    subst (λ es. AreEntries (rules_in c.args.self.now.compiled c.args.self.now.props) c.args.self.now.table.list es (c.args.self.now.closed + 1)) (sym (c.set_refuted.ensures free.0 free.1 ∙ ap (λ ts. slice_set c.args.self.now.entries.items c.args.id (record free.0 { node = node.Done ts; upto = 0; rank = Some c.args.self.now.closed })) c.requires.pair))
    (refuted-right (rules_in c.args.self.now.compiled c.args.self.now.props) c.args.self.now.table.list c.args.self.now.entries.items c.args.self.now.closed c.args.id free.0 c.args.self.now.right free.1 free.2 c.args.n c.args.at c.requires.closed (λ l at. (c.requires.clear l at, c.requires.follows l at)))
