use Rattle.std.proofs.Common.{◌≡◌, drop, take, true}
use Rattle.std.specs.List.{list_all}
use Rattle.dd_cert.specs.Steps.{fits}
use Rattle.dd_cert.proofs.lines.indexes.Given as goal

abbrev pub invariant-loop-n : goal.invariant-loop-n
invariant-loop-n l = record {
  built : l.built ≡ take l.n-index l.numbers;
  fit : list_all fits (drop l.n-index l.numbers) ≡ true;
}
