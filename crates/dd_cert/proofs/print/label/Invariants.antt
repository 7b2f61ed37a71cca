use Rattle.std.proofs.Common.{◌≡◌, drop, map, take, true}
use Rattle.std.specs.List.{list_all}
use Rattle.serde_json.specs.View.{view}
use Rattle.dd_text.specs.Text.{has_symbols}
use Rattle.dd_cert.specs.Printed.{concept_data}
use Rattle.dd_cert.proofs.print.label.Given as goal

abbrev pub invariant-loop-concept : goal.invariant-loop-concept
invariant-loop-concept l = record {
  written : map view l.values.items ≡ map (concept_data l.symbols) (take l.concept-index l.concepts);
  there : list_all (has_symbols l.symbols) (drop l.concept-index l.concepts) ≡ true;
}
