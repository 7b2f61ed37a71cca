use Rattle.std.proofs.Common.{◌≡◌, drop, map, take, true}
use Rattle.std.specs.List.{list_all}
use Rattle.serde_json.specs.View.{view}
use Rattle.dd_cert.specs.Printed.{line_data, line_has_symbols}
use Rattle.dd_cert.proofs.print.all_lines.Given as goal

abbrev pub invariant-loop-line : goal.invariant-loop-line
invariant-loop-line l = record {
  written : map view l.values.items ≡ map (line_data l.symbols) (take l.line-index l.lines);
  there : list_all (line_has_symbols l.symbols) (drop l.line-index l.lines) ≡ true;
}
