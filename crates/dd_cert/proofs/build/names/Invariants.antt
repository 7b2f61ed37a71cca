use Rattle.std.proofs.Common.{◌≡◌, drop, take, map, true}
use Rattle.std.specs.List.{list_all}
use Rattle.dd_cert.specs.Steps.{name_fits, name_by}
use Rattle.dd_cert.proofs.build.names.Given as goal

abbrev pub invariant-loop-name : goal.invariant-loop-name
invariant-loop-name l = record {
  built : l.built ≡ map (name_by l.symbols) (take l.name-index l.names);
  fit : list_all name_fits (drop l.name-index l.names) ≡ true;
}
