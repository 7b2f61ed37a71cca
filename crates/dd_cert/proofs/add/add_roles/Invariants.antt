use Rattle.std.proofs.Common.{◌≡◌, ◌≤◌, drop, true}
use Rattle.std.specs.List.{list_all}
use Rattle.dd_text.specs.Symbols.{Grows, symbol_count}
use Rattle.dd_cert.specs.Steps.{gather, with_role, has_role}
use Rattle.dd_cert.proofs.add.add_roles.Given as goal

abbrev pub invariant-loop-role : goal.invariant-loop-role
invariant-loop-role l = record {
  same : gather with_role l.initial.symbols l.roles ≡ gather with_role l.symbols (drop l.role-index l.roles);
  named : list_all has_role (drop l.role-index l.roles) ≡ true;
  few : symbol_count l.symbols ≤ 65536;
  grows : Grows l.initial.symbols l.symbols;
}
