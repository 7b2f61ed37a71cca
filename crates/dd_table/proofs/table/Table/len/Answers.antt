use Rattle.std.proofs.Common.{subst}
use Rattle.dd_table.specs.Labels.{Labels, AllPacked, IsWithoutRepeats}
use Rattle.dd_table.proofs.Numbering.{IsWithoutRepeats-from_IsDistinct}
use Rattle.dd_table.proofs.table.Table.len.Goals as goal

pub returns-clause-distinct : goal.returns-clause-distinct
returns-clause-distinct c =
    subst (λ (t : Labels). IsWithoutRepeats t.list) c.self.view_is (IsWithoutRepeats-from_IsDistinct (λ v. v.now) c.self.inside.labels.value.keys c.self.invariant.1)

pub returns-clause-packed : goal.returns-clause-packed
returns-clause-packed c = subst (λ (t : Labels). AllPacked t.width t.list) c.self.view_is c.self.invariant.2
