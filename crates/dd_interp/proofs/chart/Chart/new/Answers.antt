use Rattle.std.proofs.Common.{rules, subst, List, ℕ}
use Rattle.dd_interp.specs.SeenLists.{AreNamesSeen, AreRolesSeen}
use Rattle.dd_interp.proofs.SeenAt.{seen_at}
use Rattle.dd_interp.proofs.chart.Chart.new.Goals as goal

pub returns : goal.returns
returns c =
    let es = c.args.elements.now in
    let names = subst (λ (l : List (ℕ × ℕ)). AreNamesSeen es l c.in_ok-names.names.items) c.as_slice.ensures c.in_ok-names.ensures.seen in
    let roles = subst (λ (l : List (ℕ × ℕ × ℕ)). AreRolesSeen es l c.in_ok-roles.roles.items) c.as_slice-2.ensures c.in_ok-roles.ensures.seen in
    seen_at c.args.i.now (record { size = c.in-Ok.size; names = c.in_ok-names.names.items; roles = c.in_ok-roles.roles.items }) es names roles (search rules)
