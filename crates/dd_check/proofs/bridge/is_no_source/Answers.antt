use Rattle.std.proofs.Common.{◌∙◌}
use Rattle.dd_peer.specs.Rules.{rules_from}
use Rattle.dd_task.specs.Goals.{no_source_at}
use Rattle.dd_check.proofs.Bridges.{has-flat_map}
use Rattle.dd_check.proofs.Sources.{walked-is}
use Rattle.dd_check.proofs.bridge.is_no_source.Goals as goal

pub returns : goal.returns
returns c =
    c.any_no_source.ensures ∙ walked-is c.args.into_set.now c.args.c.now (rules_from c.args.rules.now c.args.from)
    ∙ has-flat_map (no_source_at (rules_from c.args.rules.now c.args.from)) c.args.into_set.now c.args.c.now
