use Rattle.std.proofs.Common.{[]}
use Rattle.dd_set.specs.Words.{has}
use Rattle.dd_set.proofs.Reading.{has-zeros}
use Rattle.dd_rules.specs.Tables.{tabled_rules}
use Rattle.dd_rules.proofs.Draining.{handled-start, least-after}
use Rattle.dd_rules.proofs.tables.Tables.saturate.Goals as goal

pub handle_rest-requires-clause-handled : goal.handle_rest-requires-clause-handled
handle_rest-requires-clause-handled c = handled-start (tabled_rules c.args.self.now []) (has c.fire_plain.new.label.words) (has _) (has-zeros 64) c.fire_plain.ensures.unnamed

pub returns-clause-least : goal.returns-clause-least
returns-clause-least c = least-after (tabled_rules c.args.self.now []) (has c.args.label.now.words) (has c.fire_plain.new.label.words) (has c.handle_rest.new.label.words)
    c.fire_plain.ensures.forced c.handle_rest.ensures.least
