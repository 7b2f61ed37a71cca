use Rattle.dd_rules.specs.Trees.{trees}
use Rattle.dd_rules.proofs.Keeping.{closure-kept}
use Rattle.dd_rules.proofs.Pairing.{axioms-back}
use Rattle.dd_rules.proofs.concepts.kept.Goals as goal

pub invariant_of-result : goal.invariant_of-result
invariant_of-result c =
    closure-kept c.args.sources.rows.keys c.args.walk.order.items c.args.walk.numbers.items c.args.walk.done.items c.args.sources.axioms.items c.args.axioms.now c.args.extra.now
    c.requires.sources.rows c.requires.sources.axioms c.requires.walk c.requires.few c.requires.normal c.requires.closure

pub returns-clause-axioms : goal.returns-clause-axioms
returns-clause-axioms c = axioms-back (trees c.args.sources.rows.keys) c.args.axioms.now c.args.sources.axioms.items c.requires.sources.axioms
