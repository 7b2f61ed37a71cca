use Rattle.std.proofs.Common.{◌≡◌, ◌+◌, ◌<◌, ◌≤◌, length, map}
use Rattle.dd_read.specs.Options.{defaults}
use Rattle.dd_server.specs.ServerState.{session_of}
use Rattle.drago.specs.Drills.{HasDrilled}
use Rattle.drago.proofs.drill.answered.Given as goal

-- the lines so far led here, and what the replies tell was added
abbrev pub invariant-loop-line : goal.invariant-loop-line
invariant-loop-line l = record {
  drilled : HasDrilled (map (λ line. line.items) l.yielded) (session_of l.server) l.kinds.items;
  room : length l.server.reading.kept.items < l.server.reading.options.window;
  options : l.server.reading.options ≡ defaults;
  count : l.server.reading.requests ≤ length l.yielded;
  sum : length l.yielded + length l.line-iterator.rest.items ≡ length l.fn.lines.items;
}
