use Rattle.std.proofs.Common.{◌≡◌, ◌∙◌, ◌<◌, ◌+◌, refl, sym, ap, subst, arith, ℕ, List, length, true, Some, slice_get}
use Rattle.dd_rules.specs.Compiled.{rules_in}
use Rattle.dd_graph.specs.Right.{AreEntries}
use Rattle.dd_graph.proofs.Closing.{closed-fewer, unsettled}
use Rattle.dd_graph.proofs.Setting.{clash-right}
use Rattle.dd_graph.proofs.kernel.Kernel.note_clash.Goals as goal

pub overflow_add-self : goal.overflow_add-self
overflow_add-self c =
    let free = c.requires.free in
    let fewer = closed-fewer (rules_in c.args.self.now.compiled c.args.self.now.props) c.args.self.now.table.list c.args.self.now.entries.items c.args.self.now.closed c.args.id free.0 c.args.self.now.right free.1 (unsettled free.0 free.2).0 in
    omega (arith, fewer, c.len-labels.ensures.len)

pub invariant_of-self-clause-right : goal.invariant_of-self-clause-right
invariant_of-self-clause-right c =
    let free = c.requires.free in
    subst (λ es. AreEntries (rules_in c.args.self.now.compiled c.args.self.now.props) c.args.self.now.table.list es (c.args.self.now.closed + 1)) (sym (c.set_closed.ensures free.0 free.1))
    (clash-right (rules_in c.args.self.now.compiled c.args.self.now.props) c.args.self.now.table.list c.args.self.now.entries.items c.args.self.now.closed c.args.id free.0 c.args.clash c.args.self.now.right free.1 free.2 c.requires.clash)
