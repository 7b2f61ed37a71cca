use Rattle.std.proofs.Common.{[]}
use Rattle.dd_set.specs.Words.{has}
use Rattle.dd_rules.specs.Compiled.{rules_in}
use Rattle.dd_rules.specs.Tables.{tabled_rules}
use Rattle.dd_rules.proofs.Choosing.{forced-adds}
use Rattle.dd_rules.proofs.Tabled.{saturated-none}
use Rattle.dd_rules.proofs.compiled.Compiled.forced.Goals as goal

pub returns-clause-adds : goal.returns-clause-adds
returns-clause-adds c = forced-adds (tabled_rules c.tables.result.now []) (rules_in c.args.self.now c.args._props.now) (has c.args.label.now.words) c.forced.result c.tables.ensures.shapes
    c.tables.ensures.axioms c.forced.ensures.some

pub returns-clause-saturated : goal.returns-clause-saturated
returns-clause-saturated c = saturated-none c.args.self.now c.tables.result.now c.tables.ensures c.args.label.now.words c.forced.result c.forced.ensures.none
