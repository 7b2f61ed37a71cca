use Rattle.std.proofs.Common.{◌≡◌, drop, map, take, true}
use Rattle.std.specs.List.{list_all}
use Rattle.serde_json.specs.View.{view}
use Rattle.dd_cert.specs.Printed.{role_data, role_has_symbols}
use Rattle.dd_cert.proofs.print_world.roles.Given as goal

abbrev pub invariant-loop-role : goal.invariant-loop-role
invariant-loop-role l = record {
  written : map view l.values.items ≡ map (role_data l.symbols) (take l.role-index l.roles);
  there : list_all (role_has_symbols l.symbols) (drop l.role-index l.roles) ≡ true;
}
