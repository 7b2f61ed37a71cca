use Rattle.std.proofs.Common.{◌≡◌, true}
use Rattle.dd_set.specs.Words.{has}
use Rattle.dd_rules.specs.Numbers.{decides_or}
use Rattle.dd_rules.proofs.Numbered.{all_at-from}
use Rattle.dd_rules.proofs.Walks.{idle_decides_or, walk-end}
use Rattle.dd_rules.proofs.choice.open_or.Goals as goal

pub returns-clause-none : goal.returns-clause-none
returns-clause-none c _ = all_at-from (decides_or (has c.args.label.now.words)) c.args.shapes.now
    (walk-end (λ m s. decides_or (has c.args.label.now.words) m s ≡ true) c.args.label.now.words c.args.shapes.now c.loop-n.from (idle_decides_or (has c.args.label.now.words)) c.in_default.ensures.next c.loop-n.invariant)
