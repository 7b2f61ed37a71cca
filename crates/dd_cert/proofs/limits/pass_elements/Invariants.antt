use Rattle.std.proofs.Common.{◌≡◌, drop}
use Rattle.dd_cert.specs.Steps.{walk, past_element}
use Rattle.dd_cert.proofs.limits.pass_elements.Given as goal

abbrev pub invariant-loop-name : goal.invariant-loop-name
invariant-loop-name l = walk past_element l.place (drop l.name-index l.names) ≡ walk past_element l.initial.place l.names
