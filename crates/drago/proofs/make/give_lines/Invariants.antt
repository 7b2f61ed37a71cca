use Rattle.std.proofs.Common.{◌≤◌, map, take}
use Rattle.dd_lines.specs.Outside.{Gives}
use Rattle.drago.specs.Made.{text_of}
use Rattle.drago.proofs.make.give_lines.Given as goal

-- the lines so far were given
abbrev pub invariant-loop-line : goal.invariant-loop-line
invariant-loop-line g l = record {
  given : Gives (g.K.Sink.given l.initial.sink) (g.K.Sink.given l.sink) (text_of (map (λ line. line.items) (take l.line-index l.lines)));
  counts : g.K.Sink.fault_count l.initial.sink ≤ g.K.Sink.fault_count l.sink;
}
