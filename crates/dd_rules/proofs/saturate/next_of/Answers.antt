use Rattle.std.proofs.Common.{◌∙◌, ◌==◌, ap, refl, arith}
use Rattle.dd_set.proofs.Comparing.{within-more, within-all}
use Rattle.dd_set.proofs.Reading.{has-at}
use Rattle.dd_rules.proofs.saturate.next_of.Goals as goal

pub returns-in-Some-clause-some : goal.returns-in-Some-clause-some
returns-in-Some-clause-some c =
    let found = c.in-Some.ensures.some in (
      has-at c.args.words.now c.loop-i.i c.in-Some.bit found.0 ∙ ap (λ b. b == 1) found.1,
      has-at c.args.handled.now c.loop-i.i c.in-Some.bit found.0 ∙ ap (λ b. b == 1) found.2,
    )

pub loop-i-preserved : goal.loop-i-preserved
loop-i-preserved c = within-more c.args.words.now c.args.handled.now c.loop-i.i c.loop-i.invariant (c.in_default.ensures.none refl)

pub returns-clause-none : goal.returns-clause-none
returns-clause-none c _ = within-all c.args.words.now c.args.handled.now c.loop-i.i (omega arith) c.loop-i.invariant
