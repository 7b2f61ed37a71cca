use Rattle.std.proofs.Common.{subst}
use Rattle.dd_set.specs.Words.{has, IsPacked}
use Rattle.dd_rules.proofs.Tabled.{least-same, least-seen}
use Rattle.dd_rules.proofs.compiled.Compiled.saturate.Goals as goal

pub returns-clause-least : goal.returns-clause-least
returns-clause-least c = least-same c.args.self.now c.tables.result.now c.tables.ensures c.args._props.now (has c.args.label.now.words) (has c.saturate.new.label.words) c.saturate.ensures.least

pub returns-clause-sat : goal.returns-clause-sat
returns-clause-sat c = least-seen c.args.self.now c.tables.result.now c.tables.ensures c.args.label.now.words c.saturate.new.label.words
    (subst (λ w. IsPacked w c.args.label.now.words) c.requires.width c.width-width.ensures.packed) c.saturate.ensures.least
