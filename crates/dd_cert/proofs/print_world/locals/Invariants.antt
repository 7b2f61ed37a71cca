use Rattle.std.proofs.Common.{◌≡◌, drop, map, take, true}
use Rattle.std.specs.List.{list_all}
use Rattle.serde_json.specs.View.{view}
use Rattle.dd_cert.specs.Printed.{local_data, local_has_symbols}
use Rattle.dd_cert.proofs.print_world.locals.Given as goal

abbrev pub invariant-loop-local : goal.invariant-loop-local
invariant-loop-local l = record {
  written : map view l.values.items ≡ map (local_data l.symbols) (take l.local-index l.locals);
  there : list_all (local_has_symbols l.symbols) (drop l.local-index l.locals) ≡ true;
}
