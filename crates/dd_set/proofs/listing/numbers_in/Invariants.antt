use Rattle.std.proofs.Common.{◌≡◌, ◌-◌, ◌≤◌}
use Rattle.dd_set.specs.Sets.{numbers}
use Rattle.dd_set.proofs.listing.numbers_in.Given as goal

abbrev pub invariant-loop-n : goal.invariant-loop-n
invariant-loop-n l = record {
  within : l.from ≤ l.width;
  listed : l.list.items ≡ numbers l.words l.from;
}

abbrev pub decreases-loop-n : goal.decreases-loop-n
decreases-loop-n l = l.width - l.from
