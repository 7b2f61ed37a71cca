use Rattle.std.proofs.Common.{◌≡◌, drop}
use Rattle.dd_cert.specs.Steps.{walk, past_role}
use Rattle.dd_cert.proofs.limits.pass_roles.Given as goal

abbrev pub invariant-loop-role : goal.invariant-loop-role
invariant-loop-role l = walk past_role l.place (drop l.role-index l.roles) ≡ walk past_role l.initial.place l.roles
