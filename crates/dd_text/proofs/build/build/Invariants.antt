use Rattle.std.proofs.Common.{◌≡◌, ◌≤◌, [], drop, length}
use Rattle.dd_text.specs.Build.{built}
use Rattle.dd_text.proofs.build.build.Given as goal

abbrev pub invariant-loop-left : goal.invariant-loop-left
invariant-loop-left l = record {
  within : l.left ≤ length l.signs;
  pile : l.pile ≡ built l.symbols (drop l.left l.signs) [];
}

abbrev pub decreases-loop-left : goal.decreases-loop-left
decreases-loop-left l = l.left
