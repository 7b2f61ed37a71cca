-- All rules have their lines where the rest of them has.
use Rattle.std.proofs.Common.{◌≡◌, drop, length, map}
use Rattle.dd_peer.specs.Rules.{rules_from}
use Rattle.dd_task.specs.Claims.{claim_of}
use Rattle.dd_task.specs.Lines.{cites_targets, is_there, rules_at}
use Rattle.dd_check.proofs.bridge.cites_all.Given as goal

abbrev pub invariant-loop-k : goal.invariant-loop-k
invariant-loop-k l =
    (length l.into_set ≡ length l.each)
    × (is_there (rules_at (rules_from l.v.into l.from) l.into_set) (λ into. cites_targets (map claim_of l.before) l.peer l.label into l.each)
    ≡ is_there (rules_at (rules_from l.v.into l.from) (drop l.k l.into_set)) (λ into. cites_targets (map claim_of l.before) l.peer l.label into (drop l.k l.each)))
