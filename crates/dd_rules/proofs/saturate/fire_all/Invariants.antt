use Rattle.std.proofs.Common.{◌≡◌, take}
use Rattle.dd_set.specs.Words.{has}
use Rattle.dd_rules.specs.Handled.{IsFired}
use Rattle.dd_rules.proofs.saturate.fire_all.Given as goal

abbrev pub invariant-loop-k : goal.invariant-loop-k
invariant-loop-k l = record {
  width : l.label.width ≡ l.initial.label.width;
  fired : IsFired l.axioms (take l.k-index l.ks) (has l.initial.label.words) (has l.label.words);
}
