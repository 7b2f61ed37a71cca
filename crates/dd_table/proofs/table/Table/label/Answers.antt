use Rattle.std.proofs.Common.{sym, subst}
use Rattle.dd_table.specs.Labels.{AllPacked, labels_of}
use Rattle.dd_table.proofs.table.Table.label.Goals as goal

pub words_at-requires-clause-packed : goal.words_at-requires-clause-packed
words_at-requires-clause-packed c = subst (λ set. AllPacked c.self.inside.width (labels_of set.keys)) (sym c.deref.ensures) c.self.invariant.2
