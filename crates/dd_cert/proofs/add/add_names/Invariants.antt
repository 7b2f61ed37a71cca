use Rattle.std.proofs.Common.{◌≡◌, ◌≤◌, drop, true}
use Rattle.std.specs.List.{list_all}
use Rattle.dd_text.specs.Symbols.{Grows, symbol_count}
use Rattle.dd_cert.specs.Steps.{gather, with_name, has_name}
use Rattle.dd_cert.proofs.add.add_names.Given as goal

abbrev pub invariant-loop-name : goal.invariant-loop-name
invariant-loop-name l = record {
  same : gather with_name l.initial.symbols l.names ≡ gather with_name l.symbols (drop l.name-index l.names);
  named : list_all has_name (drop l.name-index l.names) ≡ true;
  few : symbol_count l.symbols ≤ 65536;
  grows : Grows l.initial.symbols l.symbols;
}
