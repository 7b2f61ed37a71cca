use Rattle.std.proofs.Common.{◌||◌, ◌==◌, subst}
use Rattle.dd_set.specs.Words.{has, IsPacked}
use Rattle.dd_rules.proofs.Tabled.{added-seen, least-same, saturated-tabled}
use Rattle.dd_rules.proofs.compiled.Compiled.saturate_added.Goals as goal

pub saturate_added-requires-clause-saturated : goal.saturate_added-requires-clause-saturated
saturate_added-requires-clause-saturated c = saturated-tabled c.args.self.now c.tables.result.now c.tables.ensures (has c.args.label.now.words) c.requires.saturated

pub returns-clause-least : goal.returns-clause-least
returns-clause-least c props = least-same c.args.self.now c.tables.result.now c.tables.ensures props (λ k. (k == c.args.n) || has c.args.label.now.words k) (has c.saturate_added.new.label.words)
    c.saturate_added.ensures.least

pub returns-clause-sat : goal.returns-clause-sat
returns-clause-sat c = added-seen c.args.self.now c.tables.result.now c.tables.ensures c.args.label.now.words c.saturate_added.new.label.words c.args.n
    (subst (λ w. IsPacked w c.args.label.now.words) c.requires.width c.width-width.ensures.packed) c.requires.number c.saturate_added.ensures.least
