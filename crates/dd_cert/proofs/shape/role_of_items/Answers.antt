use Rattle.std.proofs.Common.{arith}
use Rattle.std.proofs.lemmas.Bool.Decides.{nat_tests}
use Rattle.dd_cert.proofs.Entries.{role_found}
use Rattle.dd_cert.proofs.OtherLengths.{role_other}
use Rattle.dd_cert.proofs.shape.role_of_items.Goals as goal
use Rattle.dd_cert.proofs.shape.role_of_items.Goals.{in_default-via-then-list-lt3, in_default-via-else-list-lt3+else-list-lt4}

pub returns-in_default : goal.returns-in_default
returns-in_default c = role_other c.args.list.now (λ e. elim c.in_default.branch [
  | in_default-via-then-list-lt3 w ↦ grind (arith, nat_tests)
  | in_default-via-else-list-lt3+else-list-lt4 w ↦ grind (arith, nat_tests)
])

pub returns : goal.returns
returns c =
    role_found c.args.list.now c.role-item.result c.start-item.result c.end-item.result c.in_ok-role.role c.in_ok-start.start c.in_ok-end.end (omega (arith, c.in-len3.len_at_least, c.in-len3.len_below))
    c.role-item.is c.start-item.is c.end-item.is c.in_ok-role.ensures c.in_ok-start.ensures.gives c.in_ok-end.ensures.gives
