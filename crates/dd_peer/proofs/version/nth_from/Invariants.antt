-- What is sought among all rules is what is left to be sought among the rest.
use Rattle.std.proofs.Common.{◌≡◌, drop, slice_get}
use Rattle.dd_peer.specs.Rules.{rules_from}
use Rattle.dd_peer.proofs.version.nth_from.Given as goal

abbrev pub invariant-loop-rule : goal.invariant-loop-rule
invariant-loop-rule l =
    slice_get (rules_from l.rules l.from) l.k ≡ slice_get (rules_from (drop l.rule-index l.rules) l.from) l.left
