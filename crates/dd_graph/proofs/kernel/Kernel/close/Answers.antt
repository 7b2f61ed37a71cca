use Rattle.std.proofs.Common.{◌≡◌, ◌∙◌, ◌<◌, ◌≤◌, refl, sym, ap, subst, arith, ℕ, List, length, true, Some, Fits, w32, ◌+◌, ◌^◌}
use Rattle.dd_rules.specs.Compiled.{rules_in}
use Rattle.dd_graph.specs.declared.node.Entry.{Entry}
use Rattle.dd_graph.specs.Right.{AreEntries}
use Rattle.dd_graph.specs.Goes.{Sets, closable_at, width_in}
use Rattle.dd_graph.proofs.Closing.{Closable, found, closed-fewer, close-right, close-less, unsettled}
use Rattle.dd_graph.proofs.Going.{sets-goes, sets-less}
use Rattle.dd_graph.proofs.kernel.Kernel.close.Goals as goal
use Rattle.dd_graph.proofs.kernel.Kernel.close.Goals.{After-set_rank}

at : (c : After-set_rank) → Closable c.args.self.now.entries.items c.args.self.now.closed c.args.id
at c = found c.args.self.now.entries.items c.deref.result.now c.args.self.now.closed c.args.id c.can_close.result c.deref.ensures.value c.can_close.ensures c.if-not-can_close.false

pub overflow_add-self : goal.overflow_add-self
overflow_add-self c =
    let there = at c in
    let fewer = closed-fewer (rules_in c.args.self.now.compiled c.args.self.now.props) c.args.self.now.table.list c.args.self.now.entries.items c.args.self.now.closed c.args.id there.entry c.args.self.now.right there.here (unsettled there.entry there.unsettled).0 in
    omega (arith, fewer, c.len-labels.ensures.len)

pub invariant_of-self-clause-right : goal.invariant_of-self-clause-right
invariant_of-self-clause-right c =
    let there = at c in
    subst (λ es. AreEntries (rules_in c.args.self.now.compiled c.args.self.now.props) c.args.self.now.table.list es (c.args.self.now.closed + 1)) (sym (c.set_rank.ensures there.entry there.here))
    (close-right (rules_in c.args.self.now.compiled c.args.self.now.props) c.args.self.now.table.list c.args.self.now.entries.items c.args.self.now.closed c.args.id there.entry c.args.self.now.right there.here there.unsettled there.closes)

pub returns-clause-goes : goal.returns-clause-goes
returns-clause-goes c =
    let there = at (goal.at.returns-clause-goes c).After-set_rank in
    sets-goes c.args.id (record there.entry { rank = Some c.args.self.now.closed }) there.entry c.args.self.now _
    (record { compiled = refl; props = refl; table = refl; entries = c.set_rank.ensures there.entry there.here; goal = refl; reached = refl; left = refl })
    there.here there.unsettled (let less = close-less (width_in c.args.self.now) c.args.self.now.closed there.entry (unsettled there.entry there.unsettled).0 in omega (arith, less)) c.requires.begun

pub returns-clause-less : goal.returns-clause-less
returns-clause-less c t =
    let there = at (goal.at.returns-clause-less c).After-set_rank in
    sets-less c.args.id (record there.entry { rank = Some c.args.self.now.closed }) there.entry c.args.self.now _
    (record { compiled = refl; props = refl; table = refl; entries = c.set_rank.ensures there.entry there.here; goal = refl; reached = refl; left = refl })
    there.here (close-less (width_in c.args.self.now) c.args.self.now.closed there.entry (unsettled there.entry there.unsettled).0)
