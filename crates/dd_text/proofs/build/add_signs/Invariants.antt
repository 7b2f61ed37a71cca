use Rattle.std.proofs.Common.{◌≡◌, ◌≤◌, drop, true}
use Rattle.std.specs.List.{list_all}
use Rattle.dd_text.specs.Symbols.{Grows, symbol_count}
use Rattle.dd_text.specs.Build.{is_sign, with_signs}
use Rattle.dd_text.proofs.build.add_signs.Given as goal

abbrev pub invariant-loop-sign : goal.invariant-loop-sign
invariant-loop-sign l = record {
  same : with_signs l.initial.symbols l.signs ≡ with_signs l.symbols (drop l.sign-index l.signs);
  signs : list_all is_sign (drop l.sign-index l.signs) ≡ true;
  few : symbol_count l.initial.symbols ≤ 65536 → symbol_count l.symbols ≤ 65536;
  grows : Grows l.initial.symbols l.symbols;
}
