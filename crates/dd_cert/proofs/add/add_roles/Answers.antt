use Rattle.dd_cert.specs.Steps.{with_role, has_role}
use Rattle.dd_text.proofs.Building.{Grows-trans}
use Rattle.dd_cert.proofs.Adding.{Grows-with_role, full-at, gather-all, gather-next, passes-here, passes-later}
use Rattle.dd_cert.proofs.add.add_roles.Goals as goal

pub add_role-requires : goal.add_role-requires
add_role-requires c = passes-here has_role c.args.roles.now c.loop-role.role-index c.role-item.result c.loop-role-test.true c.role-item.is c.loop-role.invariant.named

pub returns-in-Err-clause-full : goal.returns-in-Err-clause-full
returns-in-Err-clause-full c e = full-at with_role Grows-with_role c.args.symbols.now c.loop-role.symbols c.args.roles.now c.loop-role.role-index c.role-item.result
    c.loop-role-test.true c.role-item.is c.loop-role.invariant.same (c.in-Err.ensures.full e)

pub loop-role-preserved : goal.loop-role-preserved
loop-role-preserved c =
    let s = c.loop-role.symbols in
    let i = c.loop-role.role-index in
    let x = c.role-item.result in
    let before = c.loop-role.invariant in
    let added = c.in_default.ensures in
    record {
      same = gather-next with_role c.args.symbols.now s c.add_role.new.symbols c.args.roles.now i x c.loop-role-test.true c.role-item.is before.same added.ok;
      named = passes-later has_role c.args.roles.now i x c.loop-role-test.true c.role-item.is before.named;
      few = added.few;
      grows = Grows-trans c.args.symbols.now s c.add_role.new.symbols before.grows added.grows;
    }

pub returns-clause-ok : goal.returns-clause-ok
returns-clause-ok c = gather-all with_role c.args.symbols.now c.loop-role.symbols c.args.roles.now c.loop-role.role-index c.loop-role.invariant.same c.loop-role-test.false
