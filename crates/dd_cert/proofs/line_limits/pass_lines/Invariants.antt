use Rattle.std.proofs.Common.{◌≡◌, drop}
use Rattle.dd_cert.specs.Steps.{walk, past_line}
use Rattle.dd_cert.proofs.line_limits.pass_lines.Given as goal

abbrev pub invariant-loop-line : goal.invariant-loop-line
invariant-loop-line l = walk past_line l.place (drop l.line-index l.lines) ≡ walk past_line l.initial.place l.lines
