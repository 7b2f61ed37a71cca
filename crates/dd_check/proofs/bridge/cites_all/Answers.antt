use Rattle.std.proofs.Common.{◌∙◌, map, sym}
use Rattle.dd_peer.specs.Rules.{rules_from}
use Rattle.dd_task.specs.Claims.{claim_of}
use Rattle.dd_task.specs.Lines.{cites_targets, rules_at}
use Rattle.dd_check.proofs.Bridges.{rules_at-length, targets-length, there-never}
use Rattle.dd_check.proofs.bridge.cites_all.Goals as goal

pub returns-then-into_set-each : goal.returns-then-into_set-each
returns-then-into_set-each c =
    there-never (rules_at (rules_from c.args.v.now.into c.args.from) c.args.into_set.now)
    (λ into. cites_targets (map claim_of c.args.before.now) c.args.peer c.args.label.now into c.args.each.now)
    (λ into there. targets-length (map claim_of c.args.before.now) c.args.peer c.args.label.now into c.args.each.now
    (λ e. c.if-into_set-each.true (sym (rules_at-length (rules_from c.args.v.now.into c.args.from) c.args.into_set.now into there) ∙ e)))
