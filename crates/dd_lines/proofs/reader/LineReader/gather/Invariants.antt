use Rattle.std.proofs.Common.{◌≡◌, ◌-◌, ◌≤◌, false, [], length, take}
use Rattle.dd_lines.specs.Lines.{has_feed}
use Rattle.dd_lines.specs.Parts.{Moves}
use Rattle.dd_lines.proofs.reader.LineReader.gather.Given as goal

-- nothing was dropped, and no line feed is among the searched bytes
abbrev pub invariant-loop-size : goal.invariant-loop-size
invariant-loop-size g l = record {
  passes : Moves l.initial.self (g.S.Source.left l.initial.source) l.self (g.S.Source.left l.source) [];
  within : l.searched ≤ length l.self.held;
  none : has_feed (take l.searched l.self.held) ≡ false;
  counts : g.S.Source.fault_count l.initial.source ≤ g.S.Source.fault_count l.source;
}

abbrev pub decreases-loop-size : goal.decreases-loop-size
decreases-loop-size g l = l.self.max_bytes - l.self.taken
