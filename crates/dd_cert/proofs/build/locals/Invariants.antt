use Rattle.std.proofs.Common.{◌≡◌, drop, take, map, true}
use Rattle.std.specs.List.{list_all}
use Rattle.dd_cert.specs.Certificates.{local_by}
use Rattle.dd_cert.specs.Steps.{local_fits}
use Rattle.dd_cert.proofs.build.locals.Given as goal

abbrev pub invariant-loop-local : goal.invariant-loop-local
invariant-loop-local l = record {
  built : l.built ≡ map (local_by l.symbols) (take l.local-index l.locals);
  fit : list_all local_fits (drop l.local-index l.locals) ≡ true;
}
