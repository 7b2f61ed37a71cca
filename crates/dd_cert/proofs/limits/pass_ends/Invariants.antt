use Rattle.std.proofs.Common.{◌≡◌, drop}
use Rattle.dd_cert.specs.Steps.{walk, past_ends}
use Rattle.dd_cert.proofs.limits.pass_ends.Given as goal

abbrev pub invariant-loop-role : goal.invariant-loop-role
invariant-loop-role l = walk past_ends l.place (drop l.role-index l.roles) ≡ walk past_ends l.initial.place l.roles
