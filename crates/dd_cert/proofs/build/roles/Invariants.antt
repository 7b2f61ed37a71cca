use Rattle.std.proofs.Common.{◌≡◌, drop, take, map, true}
use Rattle.std.specs.List.{list_all}
use Rattle.dd_cert.specs.Steps.{role_fits, role_by}
use Rattle.dd_cert.proofs.build.roles.Given as goal

abbrev pub invariant-loop-role : goal.invariant-loop-role
invariant-loop-role l = record {
  built : l.built ≡ map (role_by l.symbols) (take l.role-index l.roles);
  fit : list_all role_fits (drop l.role-index l.roles) ≡ true;
}
