use Rattle.std.proofs.Common.{arith}
use Rattle.std.proofs.lemmas.Bool.Decides.{nat_tests}
use Rattle.dd_cert.proofs.Entries.{name_found}
use Rattle.dd_cert.proofs.OtherLengths.{name_other}
use Rattle.dd_cert.proofs.shape.name_of_items.Goals as goal
use Rattle.dd_cert.proofs.shape.name_of_items.Goals.{in_default-via-then-list-lt2, in_default-via-else-list-lt2+else-list-lt3}

pub returns-in_default : goal.returns-in_default
returns-in_default c = name_other c.args.list.now (λ e. elim c.in_default.branch [
  | in_default-via-then-list-lt2 w ↦ grind (arith, nat_tests)
  | in_default-via-else-list-lt2+else-list-lt3 w ↦ grind (arith, nat_tests)
])

pub returns : goal.returns
returns c =
    name_found c.args.list.now c.name-item.result c.element-item.result c.in_ok-name.name c.in_ok-element.element (omega (arith, c.in-len2.len_at_least, c.in-len2.len_below))
    c.name-item.is c.element-item.is c.in_ok-name.ensures c.in_ok-element.ensures.gives
