use Rattle.std.proofs.Common.{take, ◌≤◌}
use Rattle.std.specs.Prelude.{flat_map}
use Rattle.dd_lines.specs.Outside.{Gives}
use Rattle.dd_text.specs.Symbols.{texts_of}
use Rattle.dd_server.proofs.turn.write_lines.Given as goal

abbrev pub invariant-loop-line : goal.invariant-loop-line
invariant-loop-line g l = record {
  gives : Gives (g.K.Sink.given l.fn.sink) (g.K.Sink.given l.sink) (flat_map (λ line. line) (texts_of (take l.line-index l.lines)));
  counts : g.K.Sink.fault_count l.fn.sink ≤ g.K.Sink.fault_count l.sink;
}
