use Rattle.std.proofs.Common.{◌≡◌, ◌+◌, ◌<◌, ◌≤◌, length}
use Rattle.dd_lines.specs.NextLine.{IsGoing}
use Rattle.dd_lines.specs.Reading.{room, ahead}
use Rattle.dd_read.specs.Tests.{longest_line}
use Rattle.dd_server.specs.Headline.{most_bytes}
use Rattle.dd_server.specs.ServerState.{session_of}
use Rattle.dd_server.proofs.Runs.{IsSoFar}
use Rattle.dd_server.proofs.serve.answer_lines.Given as goal

abbrev pub invariant-loop-server : goal.invariant-loop-server
invariant-loop-server g l = record {
  reaches : IsSoFar l.fn.server.reading.options (g.S.Source.left l.fn.source) (ahead l.reader (g.S.Source.left l.source)) (g.K.Sink.given l.fn.sink) (g.K.Sink.given l.sink)
      (room l.reader) (session_of l.server);
  options : l.server.reading.options ≡ l.fn.server.reading.options;
  lines : l.reader.max_line ≡ longest_line;
  going : IsGoing l.reader;
  roomy : length l.server.reading.kept.items < l.server.reading.options.window;
  few : l.server.reading.requests + room l.reader ≤ most_bytes;
  reads : g.S.Source.fault_count l.fn.source ≤ g.S.Source.fault_count l.source;
  writes : g.K.Sink.fault_count l.fn.sink ≤ g.K.Sink.fault_count l.sink;
}

abbrev pub decreases-loop-server : goal.decreases-loop-server
decreases-loop-server g l = room l.reader
