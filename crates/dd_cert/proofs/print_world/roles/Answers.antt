use Rattle.std.proofs.Common.{ap, get_or, map, ◌∙◌}
use Rattle.serde_json.specs.View.{view}
use Rattle.serde_json.proofs.Views.{view-Array}
use Rattle.dd_cert.specs.Printed.{role_data, role_has_symbols}
use Rattle.dd_cert.proofs.Adding.{passes-here, passes-later}
use Rattle.dd_cert.proofs.Listing.{listed-all, listed-next, same-item}
use Rattle.dd_cert.proofs.print_world.roles.Goals as goal

pub loop-role-init : goal.loop-role-init
loop-role-init c = record { written = ap (map view) c.new-values.ensures.items; there = c.requires }

pub print_role-requires : goal.print_role-requires
print_role-requires c = passes-here (role_has_symbols c.args.symbols.now) c.args.roles.now c.loop-role.role-index (get_or c.args.roles.now c.loop-role.role-index (0, 0, 0)) c.loop-role-test.true (same-item c.args.roles.now c.loop-role.role-index (0, 0, 0) c.loop-role-test.true) c.loop-role.invariant.there

pub loop-role-preserved : goal.loop-role-preserved
loop-role-preserved c = record {
  written = listed-next (role_data c.args.symbols.now) c.args.roles.now c.loop-role.role-index c.loop-role.values.items c.loop-role.invariant.written (get_or c.args.roles.now c.loop-role.role-index (0, 0, 0)) c.in_ok-print_role.field-0 c.push.new.self.items
      c.loop-role-test.true (same-item c.args.roles.now c.loop-role.role-index (0, 0, 0) c.loop-role-test.true) c.in_ok-print_role.ensures c.in_ok-push.ensures.items;
  there = passes-later (role_has_symbols c.args.symbols.now) c.args.roles.now c.loop-role.role-index (get_or c.args.roles.now c.loop-role.role-index (0, 0, 0)) c.loop-role-test.true (same-item c.args.roles.now c.loop-role.role-index (0, 0, 0) c.loop-role-test.true) c.loop-role.invariant.there;
}

pub returns : goal.returns
returns c = view-Array c.loop-role.values ∙ listed-all (role_data c.args.symbols.now) c.args.roles.now c.loop-role.role-index c.loop-role.values.items c.loop-role.invariant.written c.loop-role-test.false
