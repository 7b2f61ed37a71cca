use Rattle.dd_rules.proofs.Tabled.{clash-clear, clash-concepts, clash-numbers, clash-some}
use Rattle.dd_rules.proofs.compiled.Compiled.clash.Goals as goal

pub returns-clause-some : goal.returns-clause-some
returns-clause-some c props = clash-some c.args.self.now c.tables.result.now c.tables.ensures props c.args.label.now.words c.clash.result c.clash.ensures.some

pub returns-clause-none : goal.returns-clause-none
returns-clause-none c props = clash-numbers c.args.self.now c.tables.result.now c.tables.ensures props c.args.label.now.words c.clash.result c.clash.ensures.none

pub returns-clause-concepts : goal.returns-clause-concepts
returns-clause-concepts c = clash-concepts c.args.self.now c.tables.result.now c.tables.ensures c.args.label.now.words c.clash.result c.clash.ensures.some

pub returns-clause-clear : goal.returns-clause-clear
returns-clause-clear c = clash-clear c.args.self.now c.tables.result.now c.tables.ensures c.args.label.now.words c.clash.result c.clash.ensures.none
