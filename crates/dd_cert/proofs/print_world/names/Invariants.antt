use Rattle.std.proofs.Common.{◌≡◌, drop, map, take, true}
use Rattle.std.specs.List.{list_all}
use Rattle.serde_json.specs.View.{view}
use Rattle.dd_cert.specs.Printed.{name_data, name_has_symbols}
use Rattle.dd_cert.proofs.print_world.names.Given as goal

abbrev pub invariant-loop-name : goal.invariant-loop-name
invariant-loop-name l = record {
  written : map view l.values.items ≡ map (name_data l.symbols) (take l.name-index l.names);
  there : list_all (name_has_symbols l.symbols) (drop l.name-index l.names) ≡ true;
}
