use Rattle.std.proofs.Common.{◌≡◌, drop, take, true}
use Rattle.std.specs.List.{list_all}
use Rattle.dd_cert.specs.Steps.{link_fits}
use Rattle.dd_cert.proofs.build.links.Given as goal

abbrev pub invariant-loop-link : goal.invariant-loop-link
invariant-loop-link l = record {
  built : l.built ≡ take l.link-index l.links;
  fit : list_all link_fits (drop l.link-index l.links) ≡ true;
}
