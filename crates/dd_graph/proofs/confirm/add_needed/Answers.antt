use Rattle.std.proofs.Common.{sym, subst, All, ◌<◌}
use Rattle.dd_graph.proofs.Confirming.{seconds-within}
use Rattle.dd_graph.proofs.confirm.add_needed.Goals as goal

pub add_seconds-requires : goal.add_seconds-requires
add_seconds-requires c = record {
  within = subst (All (λ p. p.1 < c.args.list.now.bound)) (sym c.as_slice-in-Done.ensures)
      (seconds-within c.args.hint c.args.list.now.bound c.args.entries.now c.args.node.now c.in-Done.to c.in-Done.is c.requires.within);
}
