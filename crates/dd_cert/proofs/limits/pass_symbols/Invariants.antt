use Rattle.std.proofs.Common.{◌≡◌, drop}
use Rattle.dd_cert.specs.Steps.{walk, past_symbols}
use Rattle.dd_cert.proofs.limits.pass_symbols.Given as goal

abbrev pub invariant-loop-local : goal.invariant-loop-local
invariant-loop-local l = walk past_symbols l.place (drop l.local-index l.locals) ≡ walk past_symbols l.initial.place l.locals
