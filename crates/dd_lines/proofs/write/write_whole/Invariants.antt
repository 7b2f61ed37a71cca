use Rattle.std.proofs.Common.{length, take, ◌-◌, ◌≤◌}
use Rattle.dd_lines.specs.Outside.{Gives}
use Rattle.dd_lines.proofs.write.write_whole.Given as goal

-- what stands before `at` was given
abbrev pub invariant-loop-at : goal.invariant-loop-at
invariant-loop-at g l = record {
  within : l.at ≤ length l.piece;
  given : Gives (g.K.Sink.given l.initial.sink) (g.K.Sink.given l.sink) (take l.at l.piece);
  counts : g.K.Sink.fault_count l.initial.sink ≤ g.K.Sink.fault_count l.sink;
}

abbrev pub decreases-loop-at : goal.decreases-loop-at
decreases-loop-at g l = length l.piece - l.at
