use Rattle.dd_set.specs.Words.{has}
use Rattle.dd_rules.specs.Tables.{tabled_rules}
use Rattle.dd_rules.proofs.Choosing.{choice-none}
use Rattle.dd_rules.proofs.tables.Tables.first_choice.Goals as goal

pub returns-clause-none : goal.returns-clause-none
returns-clause-none c = (
  c.next_choice.ensures.none,
  choice-none (tabled_rules c.args.self.now c.args.props.now) (has c.args.label.now.words) c.next_choice.result c.next_choice.ensures.some,
)
