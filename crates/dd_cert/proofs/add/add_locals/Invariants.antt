use Rattle.std.proofs.Common.{◌≡◌, ◌≤◌, drop, true}
use Rattle.std.specs.List.{list_all}
use Rattle.dd_text.specs.Symbols.{Grows, symbol_count}
use Rattle.dd_cert.specs.Steps.{gather, with_local, has_names}
use Rattle.dd_cert.proofs.add.add_locals.Given as goal

abbrev pub invariant-loop-local : goal.invariant-loop-local
invariant-loop-local l = record {
  same : gather with_local l.initial.symbols l.locals ≡ gather with_local l.symbols (drop l.local-index l.locals);
  named : list_all has_names (drop l.local-index l.locals) ≡ true;
  few : symbol_count l.symbols ≤ 65536;
  grows : Grows l.initial.symbols l.symbols;
}
