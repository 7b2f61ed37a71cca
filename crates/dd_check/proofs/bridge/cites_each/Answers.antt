use Rattle.std.proofs.Common.{◌∙◌, ◌∷◌, ◌&&◌, Bool, List, map, sym}
use Rattle.std.specs.List.{flat_map}
use Rattle.dd_concept.specs.Normal.{nnf_of}
use Rattle.dd_peer.specs.Rules.{rules_from}
use Rattle.dd_peer.specs.declared.version.Rule.{Rule}
use Rattle.dd_task.specs.Claims.{claim_of}
use Rattle.dd_task.specs.Goals.{no_source_at}
use Rattle.dd_task.specs.Lines.{cites_targets, cites_within, is_there, rules_at, sources_label}
use Rattle.dd_check.proofs.Bridges.{and-else, and-then, bridge-both}
use Rattle.dd_check.proofs.bridge.cites_each.Goals as goal

pub returns-then-cites_sources : goal.returns-then-cites_sources
returns-then-cites_sources c =
    let all : List Rule = rules_from c.args.v.now.into c.args.from in
    let targets : List Rule → Bool = λ into. cites_targets (map claim_of c.args.before.now) c.args.peer c.args.label.now into c.args.each.now in
    c.cites_all.ensures
    ∙ and-then (cites_within (map claim_of c.args.before.now) c.args.from c.args.cite (nnf_of c.args.onto.now.source ∷ flat_map (no_source_at all) c.args.into_set.now))
    (is_there (rules_at all c.args.into_set.now) targets)
    (is_there (rules_at all c.args.into_set.now) (λ into. cites_within (map claim_of c.args.before.now) c.args.from c.args.cite (sources_label c.args.onto.now into) && targets into))
    (sym c.cites_sources.ensures ∙ c.if-cites_sources.true)
    (bridge-both (map claim_of c.args.before.now) c.args.from c.args.cite c.args.onto.now all c.args.into_set.now targets)

pub returns-else-cites_sources : goal.returns-else-cites_sources
returns-else-cites_sources c =
    let all : List Rule = rules_from c.args.v.now.into c.args.from in
    let targets : List Rule → Bool = λ into. cites_targets (map claim_of c.args.before.now) c.args.peer c.args.label.now into c.args.each.now in
    c.cites_sources.ensures
    ∙ and-else (cites_within (map claim_of c.args.before.now) c.args.from c.args.cite (nnf_of c.args.onto.now.source ∷ flat_map (no_source_at all) c.args.into_set.now))
    (is_there (rules_at all c.args.into_set.now) targets)
    (is_there (rules_at all c.args.into_set.now) (λ into. cites_within (map claim_of c.args.before.now) c.args.from c.args.cite (sources_label c.args.onto.now into) && targets into))
    (sym c.cites_sources.ensures ∙ c.if-cites_sources.false)
    (bridge-both (map claim_of c.args.before.now) c.args.from c.args.cite c.args.onto.now all c.args.into_set.now targets)
