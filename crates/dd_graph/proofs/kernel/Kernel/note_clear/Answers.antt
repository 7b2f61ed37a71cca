use Rattle.std.proofs.Common.{◌≡◌, ◌∙◌, ◌<◌, ◌+◌, refl, sym, ap, subst, arith, ℕ, List, length, true, Some, slice_get}
use Rattle.dd_rules.specs.Compiled.{rules_in}
use Rattle.dd_graph.specs.Right.{AreEntries}
use Rattle.dd_graph.proofs.Closing.{closed-fewer, unsettled}
use Rattle.dd_graph.proofs.Noting.{clear-right}
use Rattle.dd_graph.proofs.kernel.Kernel.note_clear.Goals as goal

pub invariant_of-self-clause-right : goal.invariant_of-self-clause-right
invariant_of-self-clause-right c =
    let free = c.requires.free in
    subst (λ es. AreEntries (rules_in c.args.self.now.compiled c.args.self.now.props) c.args.self.now.table.list es c.args.self.now.closed) (sym (c.set_clear.ensures free.0 free.1))
    (clear-right (rules_in c.args.self.now.compiled c.args.self.now.props) c.args.self.now.table.list c.args.self.now.entries.items c.args.self.now.closed c.args.id free.0 c.args.self.now.right free.1 free.2 c.requires.clear)
