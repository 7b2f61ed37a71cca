use Rattle.std.proofs.Common.{◌≡◌, ◌-◌, [], length}
use Rattle.dd_set.specs.Words.{has}
use Rattle.dd_set.specs.Sets.{count}
use Rattle.dd_rules.specs.Forced.{IsForcedFrom}
use Rattle.dd_rules.specs.Handled.{IsHandled}
use Rattle.dd_rules.specs.Tables.{tabled_rules}
use Rattle.dd_rules.proofs.tables.Tables.handle_rest.Given as goal

abbrev pub invariant-loop-n : goal.invariant-loop-n
invariant-loop-n l = record {
  width : l.label.width ≡ l.initial.label.width;
  words : length l.handled ≡ 64;
  forced : IsForcedFrom (tabled_rules l.self []) (has l.initial.label.words) (has l.label.words);
  handled : IsHandled (tabled_rules l.self []) (has l.label.words) (has l.handled);
}

abbrev pub decreases-loop-n : goal.decreases-loop-n
decreases-loop-n l = 4096 - count l.handled 4096
