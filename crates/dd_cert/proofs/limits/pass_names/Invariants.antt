use Rattle.std.proofs.Common.{◌≡◌, drop}
use Rattle.dd_cert.specs.Steps.{walk, past_name}
use Rattle.dd_cert.proofs.limits.pass_names.Given as goal

abbrev pub invariant-loop-name : goal.invariant-loop-name
invariant-loop-name l = walk past_name l.place (drop l.name-index l.names) ≡ walk past_name l.initial.place l.names
