use Rattle.std.proofs.Common.{◌≡◌, drop}
use Rattle.dd_cert.specs.Steps.{walk, past_link}
use Rattle.dd_cert.proofs.limits.pass_links.Given as goal

abbrev pub invariant-loop-link : goal.invariant-loop-link
invariant-loop-link l = walk past_link l.place (drop l.link-index l.links) ≡ walk past_link l.initial.place l.links
