use Rattle.std.proofs.Common.{true, subst}
use Rattle.dd_tests.proofs.Tested.{all_tested, one_more_tested, first_wrong}
use Rattle.dd_tests.proofs.rows.check.Goals as goal

pub loop-i-preserved : goal.loop-i-preserved
loop-i-preserved g c =
    let row = c.index-rows-i.result in
    one_more_tested (λ r. g.R.Row.answers r true) c.args.rows.now c.loop-i.i row c.loop-i-test.true c.index-rows-i.is c.loop-i.invariant
    (subst (g.R.Row.answers row) c.in-Ok-true.field-0-test c.in-Ok-true.ensures)

pub returns-in-Ok-false : goal.returns-in-Ok-false
returns-in-Ok-false g c =
    let row = c.index-rows-i.result in
    first_wrong g.R.Row.answers c.args.rows.now c.loop-i.i row c.loop-i-test.true c.index-rows-i.is c.loop-i.invariant
    (subst (g.R.Row.answers row) c.in-Ok-false.field-0-test c.in-Ok-false.ensures)

pub returns : goal.returns
returns g c = all_tested (λ r. g.R.Row.answers r true) c.args.rows.now c.loop-i.i c.loop-i-test.false c.loop-i.invariant
