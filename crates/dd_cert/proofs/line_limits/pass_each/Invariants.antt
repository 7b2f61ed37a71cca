use Rattle.std.proofs.Common.{◌≡◌, drop}
use Rattle.dd_cert.specs.Steps.{walk, past_number}
use Rattle.dd_cert.proofs.line_limits.pass_each.Given as goal

abbrev pub invariant-loop-n : goal.invariant-loop-n
invariant-loop-n l = walk past_number l.place (drop l.n-index l.numbers) ≡ walk past_number l.initial.place l.numbers
