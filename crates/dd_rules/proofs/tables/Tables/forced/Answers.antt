use Rattle.std.proofs.Common.{[]}
use Rattle.dd_set.specs.Words.{has}
use Rattle.dd_rules.specs.Tables.{tabled_rules}
use Rattle.dd_rules.proofs.Choosing.{forced-none}
use Rattle.dd_rules.proofs.tables.Tables.forced.Goals as goal

pub returns-clause-none : goal.returns-clause-none
returns-clause-none c = (c.next_forced.ensures.none, forced-none (tabled_rules c.args.self.now []) (has c.args.label.now.words) c.next_forced.result c.next_forced.ensures.some)
